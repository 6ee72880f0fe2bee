use Rattle.std.proofs.Common.{◌++◌, Option, codes, refl, sym, ap}
use Rattle.std.proofs.lemmas.Grind.{put_two}
use Rattle.bf_findings.specs.declared.hint.Hint.{Hint}
use Rattle.bf_findings.specs.Places.{place_text}
use Rattle.bf_findings.specs.Texts.{ending}
use Rattle.bf_findings.proofs.finding.FaultDisplay.fmt.Goals as goal

pub returns-in-Some-clause-writes : goal.returns-in-Some-clause-writes
returns-in-Some-clause-writes g c = λ plain ok.
    let fault = c.args.self.now in
    let before = c.in_ok-write.ensures.writes plain refl in
    put_two _ _ _ _ _ _ _ before (c.write-in-Some.ensures.writes before.plain ok)
    (ap (λ (o : Option Hint). (place_text fault.place ++ (codes ": " ++ (fault.stands ++ codes ": "))) ++ ending fault.form o) (sym c.in-Some.is))
