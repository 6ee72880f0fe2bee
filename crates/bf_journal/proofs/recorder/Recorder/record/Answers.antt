use Rattle.std.proofs.Common.{subst, false}
use Rattle.bf_journal.specs.Recording.{IsWritten}
use Rattle.bf_journal.proofs.Going.{goes_on}
use Rattle.bf_journal.proofs.recorder.Recorder.record.Goals as goal

pub invariant_of-self : goal.invariant_of-self
invariant_of-self g c =
    let may = g.K.Journaled.may_record in
    let base = g.K.Journaled.base in
    let old = g.D.Write.written c.self.inside.device in
    let was : IsWritten may base old false = subst (λ f. IsWritten may base old f) c.if-self.false c.self.invariant in
    goes_on may base old _ c.args.line.now c.try_record_line.result was c.requires c.try_record_line.ensures
