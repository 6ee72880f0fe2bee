use Rattle.std.proofs.Common.{◌≡◌, length}
use Rattle.bf_lane.proofs.lanes.Lanes.try_gather_any.Given as goal

abbrev pub invariant-loop-at : goal.invariant-loop-at
invariant-loop-at g l = (l.self ≡ l.fn.self) × (l.at-end ≡ length l.self)
