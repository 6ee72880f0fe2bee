use Rattle.std.proofs.Common.{◌≡◌, ◌-◌, length}
use Rattle.bf_graph.specs.Edges.{lists}
use Rattle.bf_graph.specs.inner.Cycles.{AreMarked}
use Rattle.bf_graph.proofs.ReachingLemmas.{ReachesSoFar}
use Rattle.bf_graph.proofs.reach.reaching_tasks.Given as goal

abbrev pub invariant-found : goal.invariant-found
invariant-found l = record {
  len : length l.marks.items ≡ length l.edges;
  marked : AreMarked l.found.items l.marks.items;
  reached : ReachesSoFar (lists l.edges) l.task l.done l.found.items;
}

abbrev pub decreases-found : goal.decreases-found
decreases-found l = length l.edges - l.done
