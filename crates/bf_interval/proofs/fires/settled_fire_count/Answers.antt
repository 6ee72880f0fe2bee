use Rattle.std.proofs.Common.{◌≤◌, get_or, arith}
use Rattle.bf_interval.proofs.Settling.{none_settled}
use Rattle.bf_interval.proofs.fires.settled_fire_count.Goals as goal
use Rattle.bf_interval.proofs.fires.settled_fire_count.Goals.{else-last-found-via-then-last-found+else-found-last, else-last-found-via-else-last-found}

pub returns-clause-none : goal.returns-clause-none
returns-clause-none c =
    none_settled c.args.found.now c.args.to c.args.day c.place_above.result c.min-last.result c.in_ok-earliest.earliest c.requires.rising
    (omega (arith, c.in_ok-earliest.ensures, c.in_ok-earliest.is)) c.place_above.ensures.below (omega (arith, c.min-last.ensures)) (omega (arith, c.min-last.ensures))
    (λ small. elim c.else-last-found.branch as (λ _. c.in_ok-earliest.earliest ≤ get_or c.args.found.now c.min-last.result 0) [
      | else-last-found-via-then-last-found+else-found-last w ↦ omega (arith, w.if-found-last.false)
      | else-last-found-via-else-last-found w ↦ absurd (omega (arith, small, w.if-last-found.false))
    ])
