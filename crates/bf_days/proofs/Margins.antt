-- Where the data intervals of days start.
use Rattle.std.proofs.Common.{◌≡◌, ℕ, ◌+◌, ◌-◌, ◌*◌, min, ℤ, pos, ◌+ℤ◌, ◌*ℤ◌, ◌<ℤ◌, ◌≤ℤ◌, List, [], Err, negsuc, refl, sym, subst, Bool, true, false, not, ◌&&◌, int_lt, arith}
use Rattle.std.proofs.lemmas.Int.{ints}
use Rattle.jiff.specs.Types.{TimeZone, UTC, Unknown, Fixed, Posix, Tzif}
use Rattle.jiff_tz.specs.PosixRule as PosixRule
use Rattle.jiff_tz.specs.Tzif as Table
use Rattle.jiff.specs.Words.{offset_at, nanos_of_seconds, IsWithin}
use Rattle.bf_cron.specs.declared.spec.CronSpec.{CronSpec}
use Rattle.bf_interval.specs.declared.interval.Interval.{Interval}
use Rattle.bf_interval.specs.declared.fault.IntervalFault.{IntervalFault}
use Rattle.bf_interval.specs.declared.fault.IntervalFault.TheVariants.{OutsideYears, RangeReversed, TooManyRuns, OutOfMemory}
use Rattle.bf_moment.specs.Moment.{day_of}
use Rattle.bf_days.specs.declared.days.Days.{Days}
use Rattle.bf_days.specs.Days.{day_shown_of, is_on_day}
use Rattle.bf_days.specs.Listing.{AreDays, AreIntervalsBetween, AreIntervalsOn, IsAnswerOn}
use Rattle.bf_days.specs.inner.Listing.{IsAddFault}

-- no clock is further from UTC
offset_within : (zone : TimeZone) (n : ℤ) → IsWithin 93_599 (offset_at zone n)
unfolding offset_at
offset_within UTC n = (omega (arith, ints), omega (arith, ints))
offset_within Unknown n = (omega (arith, ints), omega (arith, ints))
offset_within (Fixed o) n = o.in_range
offset_within (Posix tz) n = (PosixRule.offset_at tz n).in_range
offset_within (Tzif z) n = (Table.offset_at z.now n).in_range

not_before : (a b : ℤ) → not (int_lt a b) ≡ true → b ≤ℤ a
not_before a b h = grind (arith, ints)

both : (a b : Bool) → a && b ≡ true → (a ≡ true) × (b ≡ true)
both true true e = (e, e)
both true false e = absurd (cc)
both false b e = absurd (cc)

day_bounds : (n d : ℤ) → d ≡ day_of n → ((d *ℤ pos 86_400_000_000_000) ≤ℤ n) × (n <ℤ ((d *ℤ pos 86_400_000_000_000) +ℤ pos 86_400_000_000_000))
day_bounds (pos n) d e = (omega (arith, ints, e), omega (arith, ints, e))
day_bounds (negsuc n) d e = (omega (arith, ints, e), omega (arith, ints, e))

near_by : (offset day first last n : ℤ) → IsWithin 93_599 offset
    → ((day *ℤ pos 86_400_000_000_000) ≤ℤ (n +ℤ nanos_of_seconds offset)) × ((n +ℤ nanos_of_seconds offset) <ℤ ((day *ℤ pos 86_400_000_000_000) +ℤ pos 86_400_000_000_000))
    → first ≤ℤ day → day ≤ℤ last
    → ((first *ℤ pos 86_400_000_000_000) ≤ℤ (n +ℤ pos 93_599_000_000_000)) × (n <ℤ ((last *ℤ pos 86_400_000_000_000) +ℤ pos 179_999_000_000_000))
near_by offset day first last n within bounds low high = (omega (arith, ints, within.0, within.1, bounds.0, bounds.1, low, high), omega (arith, ints, within.0, within.1, bounds.0, bounds.1, low, high))

-- where a clock shows one of the days it isn't further from them in UTC
near : (zone : TimeZone) (days : Days) (n : ℤ) → is_on_day zone days n ≡ true
    → ((days.first *ℤ pos 86_400_000_000_000) ≤ℤ (n +ℤ pos 93_599_000_000_000)) × (n <ℤ ((days.last *ℤ pos 86_400_000_000_000) +ℤ pos 179_999_000_000_000))
near zone days n on =
    let parts = both (not (int_lt (day_shown_of zone n) days.first)) (not (int_lt days.last (day_shown_of zone n))) on in
    let low : days.first ≤ℤ day_shown_of zone n = not_before (day_shown_of zone n) days.first parts.0 in
    let high : day_shown_of zone n ≤ℤ days.last = not_before days.last (day_shown_of zone n) parts.1 in
    let offset = offset_within zone n in
    near_by (offset_at zone n) (day_shown_of zone n) days.first days.last n offset (day_bounds (n +ℤ nanos_of_seconds (offset_at zone n)) (day_shown_of zone n) refl) low high

pub on_days : (spec : CronSpec) (zone : TimeZone) (days : Days) (from to first last : ℕ) (found : List Interval) → days.first ≡ pos first → days.last ≡ pos last
    → from ≡ first * 86_400_000_000_000 - 93_599_000_000_000 → to ≡ min ((last + 1) * 86_400_000_000_000 + 93_599_000_000_000) 7_258_118_399_000_000_001
    → AreIntervalsBetween spec zone days from to found → AreIntervalsOn spec zone days found
on_days spec zone days from to first last found is_first is_last is_from is_to are = record {
  rising = are.rising;
  each = are.each;
  all = λ v on.
      let close = near zone days v.0 on.2 in
      let low = close.0 in
      let high = close.1 in
      let start = on.1.0 in
      let end = on.1.1 in
      are.all v on (omega (arith, ints, low, start, is_first, is_from)) (omega (arith, ints, high, end, is_last, is_to));
}

-- before anything is looked at nothing is listed
pub nothing : (spec : CronSpec) (zone : TimeZone) (days : Days) (from : ℕ) (found : List Interval) → found ≡ [] → AreIntervalsBetween spec zone days from from found
nothing spec zone days from found none =
    let P : List Interval → Type 0 = λ xs. AreIntervalsBetween spec zone days from from xs in
    subst P (sym none) (record {
      rising = λ i j d up h. absurd (omega (arith, h));
      each = λ k d h. absurd (omega (arith, h));
      before = λ k d h. absurd (omega (arith, h));
      all = λ v on above below. absurd (omega (arith, ints, above, below));
    })

pub answer_on : (spec : CronSpec) (zone : TimeZone) (days : Days) (fault : IntervalFault) → AreDays days → IsAddFault spec zone days fault → IsAnswerOn spec zone days (Err fault)
answer_on spec zone days OutsideYears are why = absurd why
answer_on spec zone days RangeReversed are why = absurd why
answer_on spec zone days TooManyRuns are why = (are, why)
answer_on spec zone days OutOfMemory are why = tt
