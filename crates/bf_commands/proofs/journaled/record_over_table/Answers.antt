use Rattle.std.proofs.Common.{◌≡◌, refl, subst}
use Rattle.std.proofs.lemmas.Result.{IfOk-weaker}
use Rattle.bf_journal.proofs.Going.{begins}
use Rattle.bf_journal.specs.Recording.{IsRecordBy, IsWritten, is_write_failed}
use Rattle.bf_table.specs.Tables.{Answering, answer_of}
use Rattle.bf_commands.proofs.FromKept.{end_over}
use Rattle.bf_commands.proofs.journaled.record_over_table.Goals as goal

pub returns-in-Err-clause-written : goal.returns-in-Err-clause-written
returns-in-Err-clause-written g c = begins _ _ _ refl

pub returns-clause-end : goal.returns-clause-end
returns-clause-end g c =
    IfOk-weaker c.resume_recorded.result.ended _ _
    (λ ended is. end_over (g.K.KeptTries.kept c.args.kept.now) c.args.plan.now.dag c.args.table c.args.runs.now c.in-Ok.runner c.args.plan.now.limits _ c.args.crew.now.workers ended c.in-Ok.ensures is)
    c.resume_recorded.ensures.end

pub returns-clause-written : goal.returns-clause-written
returns-clause-written g c =
    let dag = c.args.plan.now.dag in
    subst
    (λ (x : Answering). IsWritten (IsRecordBy (λ n given raw. raw ≡ answer_of x n) dag c.args.runs.now) (g.D.Write.written c.args.record.device) (g.D.Write.written c.resume_recorded.result.device) (is_write_failed c.resume_recorded.result.stop))
    c.in-Ok.ensures c.resume_recorded.ensures.written
