use Rattle.std.proofs.Common.{◌≡◌, ◌||◌, ℕ, ◌<◌, ◌≤◌, length}
use Rattle.bf_graph.specs.Reach.{is_marked_in}
use Rattle.bf_graph.proofs.reach.add_marks_of.Given as goal

abbrev pub invariant-loop-k : goal.invariant-loop-k
invariant-loop-k l = record {
  len : length l.mark-items ≡ length l.fn.row.items;
  done : (j : ℕ) → j < l.k → is_marked_in l.mark-items j ≡ (is_marked_in l.fn.row.items j || is_marked_in l.other j);
  left : (j : ℕ) → l.k ≤ j → is_marked_in l.mark-items j ≡ is_marked_in l.fn.row.items j;
}
