use Rattle.bf_graph.specs.Edges.{lists}
use Rattle.bf_graph.proofs.LevelLemmas.{IsAboveBelow}
use Rattle.bf_graph.proofs.cycles.marks_of_direct_upstreams.Given as goal

abbrev pub invariant-loop-t : goal.invariant-loop-t
invariant-loop-t l = IsAboveBelow (lists l.edges) l.level l.t l.above.items
