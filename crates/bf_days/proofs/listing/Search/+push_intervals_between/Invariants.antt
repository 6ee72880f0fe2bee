use Rattle.std.proofs.Common.{◌-◌}
use Rattle.bf_days.proofs.listing.Search.+push_intervals_between.Given as goal

abbrev pub decreases-push_intervals_between : goal.decreases-push_intervals_between
decreases-push_intervals_between l = l.to - l.from
