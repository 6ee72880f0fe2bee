use Rattle.std.proofs.Common.{◌*◌, ◌/◌}
use Rattle.std.specs.List.Sorted.{IsStrictlyIncreasing}
use Rattle.jiff.specs.Words.{plain_zone}
use Rattle.bf_interval.specs.inner.Search.{Collects}
use Rattle.bf_interval.proofs.fires.first_fires.Given as goal

abbrev pub invariant-loop-day : goal.invariant-loop-day
invariant-loop-day l = record {
  rising : IsStrictlyIncreasing l.found.items;
  found : Collects l.spec (plain_zone l.zone) (l.from / 86_400 * 1_440) (l.day * 1_440) l.from l.found.items;
}
