use Rattle.std.proofs.Common.{◌≡◌, length}
use Rattle.bf_graph.specs.inner.Cycles.{AreMarked}
use Rattle.bf_graph.proofs.ReachingLemmas.{AddsBelow}
use Rattle.bf_graph.proofs.reach.add_unmarked.Given as goal

abbrev pub invariant-loop-t : goal.invariant-loop-t
invariant-loop-t l = record {
  len : length l.marks.items ≡ length l.fn.marks.items;
  marked : AreMarked l.found.items l.marks.items;
  added : AddsBelow l.fn.found.items l.tasks l.t-index l.found.items;
}
