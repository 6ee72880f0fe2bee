use Rattle.std.proofs.Common.{◌≡◌, ◌++◌, ◌≤◌, length, take}
use Rattle.std.specs.List.{filter}
use Rattle.jiff.specs.Words.{plain_zone}
use Rattle.bf_days.specs.inner.Listing.{are_on}
use Rattle.bf_days.proofs.listing.Search.push_those_on_days.Given as goal

abbrev pub invariant-loop-interval : goal.invariant-loop-interval
invariant-loop-interval l = record {
  kept : l.found.items ≡ l.fn.found.items ++ filter (are_on (plain_zone l.self.zone.now) l.self.days) (take l.interval-index l.listed);
  few : length l.found.items ≤ 4_096;
}
