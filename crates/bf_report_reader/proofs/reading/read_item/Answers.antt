use Rattle.std.proofs.Common.{◌∷◌, ◌++◌, codes, ap}
use Rattle.bf_report_reader.specs.declared.part.GivenPart.{GivenPart}
use Rattle.bf_report_reader.proofs.Lines.{part_step, no_item_line}
use Rattle.bf_report_reader.proofs.reading.read_item.Goals as goal

pub returns-in_ok-add_part-in-Some : goal.returns-in_ok-add_part-in-Some
returns-in_ok-add_part-in-Some c =
    let says = rw c.in-Some.is at c.in_ok-item.ensures.some in
    rw c.taken_or_refused.ensures
    (part_step c.args.beginning.now c.add_part.new.self (codes "@item" ++ 32 ∷ c.args.text.now) (GivenPart.Item c.in-Some.item) c.in_ok-add_part-in-Some.field-0 c.requires says.0
    (ap (λ t. codes "@item" ++ 32 ∷ t) says.1) c.in_ok-add_part-in-Some.ensures.added)

pub returns-in-None : goal.returns-in-None
returns-in-None c =
    no_item_line c.args.beginning.now c.args.text.now c.requires.ruled
    (λ x other good is added. let none = (rw c.in-None.is at c.in_ok-item.ensures.every) x (good, is) in absurd (cc none))
