use Rattle.std.proofs.Common.{◌≡◌, ◌+◌, drop, length}
use Rattle.std.specs.Vec.Iter.{into_iter_items, into_iter_len}
use Rattle.bf_exec.specs.inner.Accounts.{AreUnused}
use Rattle.bf_exec.specs.inner.Starting.{AreFresh}
use Rattle.bf_exec.proofs.starting.start_lanes.Given as goal

abbrev pub invariant-loop-seat : goal.invariant-loop-seat
invariant-loop-seat g l =
    AreFresh (drop l.at l.queues) (into_iter_items l.seat-iterator)
    × AreUnused l.lanes
    × (length l.lanes ≡ l.at)
    × (l.at + into_iter_len l.seat-iterator ≡ length l.fn.seats.items)
