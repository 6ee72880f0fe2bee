use Rattle.std.proofs.Common.{◌≡◌, ◌≤◌, ◌+◌, ◌++◌, List, vec_len, length}
use Rattle.std.specs.Prelude.{vec_capacity}
use Rattle.std.specs.Vec.Iter.{into_iter_items, into_iter_len}
use Rattle.bf_lane.specs.Lanes.{FourLists}
use Rattle.bf_lane.specs.Closing.{ClosesAll}
use Rattle.bf_lane.proofs.lanes.Lanes.close.Given as goal

abbrev pub invariant-loop-lane : goal.invariant-loop-lane
invariant-loop-lane g l =
    (vec_len l.ends + into_iter_len l.lane-iterator ≤ vec_capacity l.ends)
    × ((cs : List FourLists) → ClosesAll g.K.Service.answers g.K.Service.gives_up (into_iter_items l.lane-iterator) cs → ClosesAll g.K.Service.answers g.K.Service.gives_up l.fn.self (l.ends.items ++ cs))
    × (length (into_iter_items l.lane-iterator) ≡ into_iter_len l.lane-iterator)
