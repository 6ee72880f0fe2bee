use Rattle.std.proofs.Common.{ℕ, ◌*◌, ◌≤◌}
use Rattle.std.specs.List.Sorted.{IsStrictlyIncreasing}
use Rattle.jiff.specs.Words.{plain_zone}
use Rattle.bf_interval.specs.inner.Search.{Collects}
use Rattle.bf_interval.proofs.fires.push_fires_of_hour.Given as goal

abbrev pub invariant-loop-minute : goal.invariant-loop-minute
invariant-loop-minute l = record {
  rising : IsStrictlyIncreasing l.found.items;
  found : (low : ℕ) → low ≤ l.hour * 60
      → Collects l.spec (plain_zone l.zone) low (l.hour * 60) l.from l.fn.found.items
      → Collects l.spec (plain_zone l.zone) low l.minute l.from l.found.items;
}
