use Rattle.std.proofs.Common.{◌∷◌, ◌++◌, codes, ap}
use Rattle.bf_report_reader.specs.declared.part.GivenPart.{GivenPart}
use Rattle.bf_report_reader.proofs.Lines.{part_step, no_pull_line}
use Rattle.bf_report_reader.proofs.reading.read_pull.Goals as goal

pub returns-in_ok-add_part-in-Some : goal.returns-in_ok-add_part-in-Some
returns-in_ok-add_part-in-Some c =
    let says = rw c.in-Some.is at c.in_ok-pull.ensures.some in
    rw c.taken_or_refused.ensures
    (part_step c.args.beginning.now c.add_part.new.self (codes "@pull" ++ 32 ∷ c.args.text.now) (GivenPart.Pull c.in-Some.pull) c.in_ok-add_part-in-Some.field-0 c.requires says.0
    (ap (λ t. codes "@pull" ++ 32 ∷ t) says.1) c.in_ok-add_part-in-Some.ensures.added)

pub returns-in-None : goal.returns-in-None
returns-in-None c =
    no_pull_line c.args.beginning.now c.args.text.now c.requires.ruled
    (λ x other good is added. let none = (rw c.in-None.is at c.in_ok-pull.ensures.every) x (good, is) in absurd (cc none))
