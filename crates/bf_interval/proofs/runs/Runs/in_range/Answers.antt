use Rattle.jiff.specs.ZoneView.{plain_zone}
use Rattle.bf_interval.proofs.Ending.{intervals_end_by_2208}
use Rattle.bf_interval.proofs.runs.Runs.in_range.Goals as goal

pub invariant_of-result : goal.invariant_of-result
invariant_of-result c =
    let (text, said) = c.requires in
    let (range, few, are) = c.in_ok-intervals.ensures in
    record { few = few; each = intervals_end_by_2208 text c.args.spec.now said (plain_zone c.args.zone.now) _ _ range _ are; rising = are.rising }
