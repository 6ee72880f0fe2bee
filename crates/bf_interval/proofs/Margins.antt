-- How far an instant lies from its civil minute.
use Rattle.std.proofs.Common.{◌≡◌, ℕ, ◌+◌, ◌*◌, ◌/◌, ◌<◌, ◌≤◌, ℤ, pos, ◌≤ℤ◌, arith, unsigned_abs}
use Rattle.std.proofs.lemmas.Int.{ints}
use Rattle.jiff.specs.Types.{DateTime, TimeZone, Offset}
use Rattle.jiff.specs.Words.{compatible_offset, ambiguous_at}
use Rattle.bf_cron.specs.declared.spec.CronSpec.{CronSpec}
use Rattle.bf_interval.specs.Fires.{IsFire}
use Rattle.bf_interval.specs.inner.Search.{seconds}

-- the offset that the zone picks for a civil time
abbrev pub picked_offset : TimeZone → DateTime → Offset
picked_offset zone at = compatible_offset (ambiguous_at zone at)

pub not_early : (spec : CronSpec) (zone : TimeZone) (k : ℕ) (f : IsFire spec zone (seconds k)) → f.minute * 60 ≤ k + 266_399
not_early spec zone k f =
    let o = picked_offset zone f.at in
    omega (arith, ints, f.shown, f.placed, o.in_range)

pub not_late : (spec : CronSpec) (zone : TimeZone) (k : ℕ) (f : IsFire spec zone (seconds k)) → k + 79_201 ≤ f.minute * 60
not_late spec zone k f =
    let o = picked_offset zone f.at in
    omega (arith, ints, f.shown, f.placed, o.in_range)

-- a fire from `from` on is of the date of `from`, less two days, or of a later one
pub from_low : (spec : CronSpec) (zone : TimeZone) (from k : ℕ) (f : IsFire spec zone (seconds k)) → from ≤ k → from / 86_400 * 1_440 ≤ f.minute
from_low spec zone from k f after = let e = not_late spec zone k f in omega arith

-- a fire before the earliest that the minutes from a day on can give is of a day before
pub before_day : (spec : CronSpec) (zone : TimeZone) (day k : ℕ) (f : IsFire spec zone (seconds k)) → k + 266_399 < day * 86_400 → f.minute < day * 1_440
before_day spec zone day k f early = let e = not_early spec zone k f in omega arith

-- a fire from 1970 on comes on a whole second
pub whole : (spec : CronSpec) (zone : TimeZone) (n : ℤ) → IsFire spec zone n → pos 0 ≤ℤ n → (k : ℕ) × (n ≡ seconds k)
whole spec zone n f h = (unsigned_abs n / 1_000_000_000, omega (arith, ints, f.shown, f.placed))
