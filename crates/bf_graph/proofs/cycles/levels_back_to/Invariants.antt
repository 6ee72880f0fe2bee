use Rattle.bf_graph.specs.Edges.{lists}
use Rattle.bf_graph.specs.Reach.{rows_of}
use Rattle.bf_graph.proofs.LevelLemmas.{LevelsSoFar}
use Rattle.bf_graph.proofs.cycles.levels_back_to.Given as goal

abbrev pub invariant-loop-n : goal.invariant-loop-n
invariant-loop-n l = LevelsSoFar (lists l.edges) l.task l.n (rows_of l.levels.items)
