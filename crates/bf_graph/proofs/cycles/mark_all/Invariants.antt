use Rattle.bf_graph.proofs.LevelLemmas.{MarksBelow}
use Rattle.bf_graph.proofs.cycles.mark_all.Given as goal

abbrev pub invariant-loop-t : goal.invariant-loop-t
invariant-loop-t l = MarksBelow l.fn.marks.items l.tasks l.t-index l.marks.items
