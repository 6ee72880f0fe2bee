use Rattle.std.proofs.Common.{◌≡◌, ◌≤◌, ◌<◌, ℕ, None, get_or, length, map, take}
use Rattle.bf_clear.specs.Aligning.{told_at}
use Rattle.bf_clear.proofs.aligning.tasks_at_places.Given as goal

-- what was told of the tasks before, and what was told of the others is told still
abbrev pub invariant-loop-i : goal.invariant-loop-i
invariant-loop-i l = record {
  so_far : l.tasks.items ≡ map (told_at l.fn.told) (take l.i l.places);
  left : (k : ℕ) → l.i ≤ k → k < length l.places → told_at l.told (get_or l.places k None) ≡ told_at l.fn.told (get_or l.places k None);
}
