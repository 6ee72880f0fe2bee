use Rattle.std.proofs.Common.{◌≡◌, map, take}
use Rattle.bf_graph.specs.Edges.{lists}
use Rattle.bf_check.specs.inner.Looks.{settling_upstreams}
use Rattle.bf_check.proofs.looks.DraftUnderCheck.settling_edges.Given as goal

abbrev pub invariant-loop-t : goal.invariant-loop-t
invariant-loop-t l = lists l.edges.items ≡ map (settling_upstreams l.self.ids.now) (take l.t l.self.draft.now.tasks)
