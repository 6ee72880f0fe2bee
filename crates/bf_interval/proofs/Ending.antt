-- A data interval that starts in the years ends by 2208, since its schedule fires in 2204.
use Rattle.std.proofs.Common.{◌≡◌, ℕ, true, ℤ, pos, ◌<ℤ◌, ◌≤ℤ◌, List, get_or, Ok, refl, arith}
use Rattle.std.specs.Prelude.{All}
use Rattle.std.proofs.lemmas.Int.{ints}
use Rattle.jiff.specs.Types.{TimeZone}
use Rattle.jiff.specs.Words.{picked_instant, IsYear, is_leap_year}
use Rattle.bf_cron.specs.declared.spec.CronSpec.{CronSpec}
use Rattle.bf_cron.specs.Cron.{IsRead, schedule_of}
use Rattle.bf_cron.specs.LeapYears.{FiresIn}
use Rattle.bf_cron.proofs.LeapYears.{fires_in_each_leap_year, minute_of_2204}
use Rattle.bf_interval.specs.Fires.{IsFire}
use Rattle.bf_interval.specs.Intervals.{ends, StartsIn, AreIntervals, IsRange}
use Rattle.bf_interval.specs.Runs.{IsOfRun}
use Rattle.bf_interval.specs.Years.{IsInYears}
use Rattle.bf_interval.specs.declared.interval.Interval.{Interval}
use Rattle.bf_interval.proofs.Margins.{picked_offset, whole}

-- a fire behind the years, and not later than 2208
record ComesBy2208 (spec : CronSpec) (zone : TimeZone) : Type 0 where
  instant : ℤ
  fire : IsFire spec zone instant
  late : pos 7_258_118_399_000_000_000 <ℤ instant
  early : instant ≤ℤ pos 7_542_115_199_000_000_000

comes : (spec : CronSpec) (zone : TimeZone) → FiresIn spec (pos 2_204) → ComesBy2208 spec zone
comes spec zone f =
    let (low, high) = minute_of_2204 f.at f.minute f.in_year f.shown in
    let fire : IsFire spec zone (picked_instant zone f.at) = record { minute = f.minute; in_dates = omega (arith, high); at = f.at; shown = f.shown; matching = f.matching; placed = refl } in
    let o = picked_offset zone f.at in
    let placed = fire.placed in
    record {
      instant = picked_instant zone f.at;
      fire = fire;
      late = omega (arith, ints, fire.shown, fire.placed, o.in_range);
      early = omega (arith, ints, fire.shown, fire.placed, o.in_range);
    }

ends_by_2208 : (spec : CronSpec) (zone : TimeZone) (from to : ℤ) (i : Interval) → ComesBy2208 spec zone → IsRange from to → StartsIn spec zone from to (ends i) → IsOfRun i
ends_by_2208 spec zone from to i comes range (is, after, before) =
    let in_years : IsInYears i.start.nanosecond = (omega (arith, ints, range.from_in_years.0, after), omega (arith, ints, range.to_in_years.1, before)) in
    let (first, last) = in_years in
    let rises = is.rises in
    let behind = comes.late in
    let by = comes.early in
    let next = is.next comes.instant comes.fire (omega (arith, ints)) in
    let (start, start_is) = whole spec zone i.start.nanosecond is.opens first in
    let (end, end_is) = whole spec zone i.end.nanosecond is.closes (omega (arith, ints)) in
    record {
      in_years = in_years;
      in_order = omega (arith, ints);
      start = record { second = start; is = start_is; to_2208 = omega (arith, ints) };
      end = record { second = end; is = end_is; to_2208 = omega (arith, ints) };
    }

pub intervals_end_by_2208 : (text : List ℕ) (spec : CronSpec) → IsRead (schedule_of text) (Ok spec) → (zone : TimeZone) (from to : ℤ) → IsRange from to → (found : List Interval) → AreIntervals spec zone from to found → All IsOfRun found
intervals_end_by_2208 text spec read zone from to range found are = λ k d inside.
    let i = get_or found k d in
    let starts : StartsIn spec zone from to (ends i) = are.each k d inside in
    let f = starts.0.opens in
    ends_by_2208 spec zone from to i (comes spec zone (fires_in_each_leap_year text spec read f.minute f.at f.shown f.matching (pos 2_204) leap_year.0 leap_year.1 leap_year.2)) range starts
  where
    leap_year : IsYear (pos 2_204) × (pos 1_972 ≤ℤ pos 2_204) × (is_leap_year (pos 2_204) ≡ true)
    leap_year = (omega (arith, ints), omega (arith, ints), refl)
