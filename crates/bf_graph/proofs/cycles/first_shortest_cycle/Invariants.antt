use Rattle.std.proofs.Common.{◌-◌, length}
use Rattle.bf_graph.specs.Edges.{lists}
use Rattle.bf_graph.proofs.NamedLemmas.{WalkSoFar}
use Rattle.bf_graph.proofs.cycles.first_shortest_cycle.Given as goal

abbrev pub invariant-along : goal.invariant-along
invariant-along l = WalkSoFar (lists l.edges) l.task (length l.levels - 1) l.left l.last l.cycle.items

abbrev pub decreases-along : goal.decreases-along
decreases-along l = l.left
