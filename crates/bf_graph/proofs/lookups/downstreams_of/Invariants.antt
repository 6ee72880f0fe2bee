use Rattle.bf_graph.specs.Edges.{lists}
use Rattle.bf_graph.specs.inner.Lookups.{AreDownstreamsBelow}
use Rattle.bf_graph.proofs.lookups.downstreams_of.Given as goal

abbrev pub invariant-loop-t : goal.invariant-loop-t
invariant-loop-t l = AreDownstreamsBelow (lists l.edges) l.t (lists l.found.items)
