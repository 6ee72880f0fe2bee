use Rattle.std.proofs.Common.{◌≡◌, ℕ, ◌<◌, true}
use Rattle.bf_graph.specs.Edges.{lists, IsUpstream}
use Rattle.bf_graph.specs.Reach.{is_marked_in}
use Rattle.bf_graph.proofs.cycles.earliest_marked_downstream.Given as goal

abbrev pub invariant-loop-next : goal.invariant-loop-next
invariant-loop-next l = (x : ℕ) → x < l.next → is_marked_in l.level x ≡ true → IsUpstream (lists l.edges) l.task x → ⊥
