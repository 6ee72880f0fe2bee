use Rattle.std.proofs.Common.{◌≡◌, length, get_or}
use Rattle.bf_interval.specs.inner.Search.{ArePairs}
use Rattle.bf_interval.proofs.listing.intervals_between_fires.Given as goal

abbrev pub invariant-loop-end : goal.invariant-loop-end
invariant-loop-end l = record {
  pairs : ArePairs l.fires l.to l.found.items;
  length : length l.found.items ≡ l.end-index;
  start : l.start ≡ get_or l.fires l.end-index 0;
}
