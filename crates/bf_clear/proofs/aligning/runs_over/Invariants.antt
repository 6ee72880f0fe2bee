use Rattle.std.proofs.Common.{◌≡◌, ◌≤◌, ◌<◌, ℕ, get_or, length, take}
use Rattle.bf_interval.specs.declared.interval.Interval.{Interval}
use Rattle.bf_clear.specs.Aligning.{tasks_at}
use Rattle.bf_clear.specs.inner.Aligning.{AreAlignedBy}
use Rattle.bf_clear.proofs.aligning.runs_over.Given as goal

-- what was told of the runs before, and what was told of the others is told still
abbrev pub invariant-loop-i : goal.invariant-loop-i
invariant-loop-i l = record {
  so_far : AreAlignedBy l.places l.fn.told.items (take l.i l.intervals) l.runs.items;
  left : (k : ℕ) (d : Interval) → l.i ≤ k → k < length l.intervals → tasks_at l.told.items (get_or l.intervals k d) ≡ tasks_at l.fn.told.items (get_or l.intervals k d);
}
