use Rattle.std.proofs.Common.{ℕ, ◌<◌}
use Rattle.bf_graph.specs.Edges.{lists}
use Rattle.bf_graph.specs.Reach.{Reaches}
use Rattle.bf_graph.proofs.cycles.shortest_cycle_from_earliest.Given as goal

abbrev pub invariant-loop-first : goal.invariant-loop-first
invariant-loop-first l = (k : ℕ) → k < l.first → Reaches (lists l.edges) k k → ⊥
