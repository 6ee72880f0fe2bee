use Rattle.std.proofs.Common.{ℕ, ◌*◌, ◌≤◌}
use Rattle.std.specs.List.Sorted.{IsStrictlyIncreasing}
use Rattle.jiff.specs.Words.{plain_zone}
use Rattle.bf_interval.specs.inner.Search.{Collects}
use Rattle.bf_interval.proofs.fires.push_fires_of_day.Given as goal

abbrev pub invariant-loop-hour : goal.invariant-loop-hour
invariant-loop-hour l = record {
  rising : IsStrictlyIncreasing l.found.items;
  found : (low : ℕ) → low ≤ l.day * 1_440
      → Collects l.spec (plain_zone l.zone) low (l.day * 1_440) l.from l.fn.found.items
      → Collects l.spec (plain_zone l.zone) low (l.hour * 60) l.from l.found.items;
}
