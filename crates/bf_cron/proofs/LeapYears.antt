-- A schedule that is written has a date in each leap year, where it has one at all.
use Rattle.std.proofs.Common.{◌≡◌, ℕ, ◌+◌, ◌*◌, ◌/◌, ◌-◌, ◌%◌, ◌<◌, ◌≤◌, ◌==◌, Bool, true, false, cond, not, ◌&&◌, ◌||◌, ℤ, pos, ◌+ℤ◌, ◌<ℤ◌, ◌≤ℤ◌, List, [], ◌∷◌, Option, Some, None, Ok, refl, sym, ap, ◌∙◌, subst, arith, ◌⊎◌, inl, inr, unsigned_abs}
use Rattle.std.proofs.lemmas.Int.{ints}
use Rattle.std.proofs.lemmas.Bool.Decides.{nat_tests}
use Rattle.std.proofs.lemmas.Slice.Eq.{bytes_eq-Decides}
use Rattle.jiff.specs.Types.{Date, DateTime}
use Rattle.jiff.specs.Words.{epoch_day, weekday_of, time_nanos, IsYear, is_leap_year, days_in_month}
use Rattle.jiff.proofs.Family.{days_from_civil-day, civil_nanos-parts, time_nanos_bound}
use Rattle.jiff_core.specs.Calendar.{IsCivilDate, day_count, day_of_year, days_from_civil, weekday_number}
use Rattle.jiff_core.proofs.CalendarLemmas.{days_from_civil-day_count, day_count-epoch, day_count-day_of_year, day_count-lt_year, day_of_year_bound, days_in_month_bounds, days_in_year_bounds, weekday_number-add, weekday_number_bound}
use Rattle.jiff_core.proofs.MarchLemmas.{day_count-early}
use Rattle.jiff_core.proofs.SignedLemmas.{signed_arith}
use Rattle.bf_cron.specs.declared.field.Field.TheVariants.{Day, Weekday}
use Rattle.bf_cron.specs.declared.spec.CronSpec.{CronSpec}
use Rattle.bf_cron.specs.Cron.{Schedule, IsRead, Keeps, field_of, in_field, on_weekday, day_matches, date_matches, spec_matches, schedule_of}
use Rattle.bf_cron.specs.Grammar.{IsFiveFields, IsScheduleText, fields, preset_of}
use Rattle.bf_cron.specs.Minutes.{IsMinute}
use Rattle.bf_cron.specs.LeapYears.{FiresIn}
use Rattle.bf_cron.proofs.Rules.{matches_is}
use Rattle.bf_cron.proofs.Schedules.{schedule_written, field_read, some_injective}

-- ---- `*` stands for all numbers

-- a day field that is `*` has all days, and a weekday field that is `*` all weekdays
record TakesAll (s : Schedule) : Type 0 where
  days : s.any_day ≡ true → (v : ℕ) → 1 ≤ v → v ≤ 31 → in_field s.days v ≡ true
  weekdays : s.any_weekday ≡ true → (w : ℕ) → w < 7 → in_field s.weekdays w ≡ true

all_days : (v : ℕ) → 1 ≤ v → v ≤ 31 → in_field (record { low = 1; high = 31; step = 1 } ∷ []) v ≡ true
all_days v low high = grind (arith, nat_tests, low, high)

all_weekdays : (v : ℕ) → v < 7 → in_field (record { low = 0; high = 7; step = 1 } ∷ []) v ≡ true
all_weekdays v high = grind (arith, nat_tests, high)

five_take_all : (text : List ℕ) (s : Schedule) → IsFiveFields text s → TakesAll s
five_take_all text s five = record {
  days = λ any v low high.
      let star : five.day ≡ 42 ∷ [] = (bytes_eq-Decides five.day (42 ∷ [])).0 (sym five.any_day ∙ any) in
      let items : record { low = 1; high = 31; step = 1 } ∷ [] ≡ s.days = some_injective _ _ (sym (ap (field_of Day) star) ∙ field_read Day five.day s.days five.days) in
      ap (λ is. in_field is v) (sym items) ∙ all_days v low high;
  weekdays = λ any w high.
      let star : five.weekday ≡ 42 ∷ [] = (bytes_eq-Decides five.weekday (42 ∷ [])).0 (sym five.any_weekday ∙ any) in
      let items : record { low = 0; high = 7; step = 1 } ∷ [] ≡ s.weekdays = some_injective _ _ (sym (ap (field_of Weekday) star) ∙ field_read Weekday five.weekday s.weekdays five.weekdays) in
      ap (λ is. in_field is w) (sym items) ∙ all_weekdays w high;
}

written_take_all : (text : List ℕ) (s : Schedule) → IsScheduleText text s → TakesAll s
written_take_all text s (fields five) = five_take_all text s five
written_take_all text s (preset_of meant is five) = five_take_all meant s five

-- ---- days of the month and weekdays

-- why a day matches: by its day of the month, or by its weekday alone
picked : (x y a b : Bool) → cond (not x && not y) (a || b) (a && b) ≡ true → ((a ≡ true) × ((y ≡ true) ⊎ ((x ≡ false) × (y ≡ false)))) ⊎ ((b ≡ true) × (y ≡ false))
picked false false true b e = inl (refl, inr (refl, refl))
picked false false false b e = inr (e, refl)
picked x true true b e = inl (refl, inl refl)
picked true true false b e = absurd (cc e)
picked false true false b e = absurd (cc e)
picked true false true b e = inr (e, refl)
picked true false false b e = absurd (cc e)

by_both : (x y a b : Bool) → a ≡ true → b ≡ true → cond (not x && not y) (a || b) (a && b) ≡ true
by_both false false true b h k = refl
by_both false true true b h k = k
by_both true y true b h k = k
by_both x y false b h k = absurd (cc h)

by_day : (x y a b : Bool) → x ≡ false → y ≡ false → a ≡ true → cond (not x && not y) (a || b) (a && b) ≡ true
by_day x y a b h k e = rw (h, k, e) refl

by_weekday : (x y a b : Bool) → y ≡ false → b ≡ true → (x ≡ true → a ≡ true) → cond (not x && not y) (a || b) (a && b) ≡ true
by_weekday false y true b k e h = rw k refl
by_weekday false y false b k e h = rw k e
by_weekday true y true b k e h = e
by_weekday true y false b k e h = absurd (cc (h refl))

-- ---- dates

longest_month : (b leap : Bool) (m : ℕ) → leap ≡ true → cond (m == 2) (cond b 29 28) (cond ((m == 4) || (m == 6) || (m == 9) || (m == 11)) 30 31) ≤ cond (m == 2) (cond leap 29 28) (cond ((m == 4) || (m == 6) || (m == 9) || (m == 11)) 30 31)
longest_month true leap m e = rw e (omega arith)
longest_month false leap m e = rw e (grind arith)

in_leap_month : (year leap : ℤ) (m d : ℕ) → is_leap_year leap ≡ true → d ≤ days_in_month year m → d ≤ days_in_month leap m
in_leap_month year leap m d e h = omega (arith, h, longest_month (is_leap_year year) (is_leap_year leap) m e)

-- the day of the month, from 1 to 7, that falls on a weekday
fall : ℤ → ℕ → ℕ → ℕ
fall year m w = (w + 7 - weekday_number (days_from_civil year m 1)) % 7 + 1

falls_on : (year : ℤ) (m w : ℕ) → w < 7 → weekday_number (days_from_civil year m (fall year m w)) ≡ w
unfolding fall
falls_on year m w small =
    let first = days_from_civil year m 1 in
    let k : ℕ = (w + 7 - weekday_number first) % 7 in
    let later : days_from_civil year m (k + 1) ≡ first +ℤ pos k = omega (arith, signed_arith, days_from_civil-day year m 1 (k + 1) (omega arith) (omega arith)) in
    omega (arith, weekday_number_bound first, weekday_number-add first (days_from_civil year m (k + 1)) k later)

fall_within : (year : ℤ) (m w : ℕ) → (1 ≤ fall year m w) × (fall year m w ≤ 7)
unfolding fall
fall_within year m w = omega arith

and_both : (a b : Bool) → (a && b) ≡ true → (a ≡ true) × (b ≡ true)
and_both true b e = (refl, e)
and_both false b e = absurd (cc e)

or_left : (a b : Bool) → a ≡ true → (a || b) ≡ true
or_left true b e = refl
or_left false b e = absurd (cc e)

-- the schedule has a date of the year
record HasDateIn (s : Schedule) (year : ℤ) : Type 0 where
  date : Date
  in_year : date.year ≡ year
  has : date_matches s date ≡ true

date_in_leap_year : (s : Schedule) (date : Date) (year : ℤ) → TakesAll s → IsYear year → is_leap_year year ≡ true → date_matches s date ≡ true → HasDateIn s year
date_in_leap_year s date year all is_year leap has =
    let w : ℕ = (weekday_of date + 1) % 7 in
    let (month, day) = and_both (in_field s.months date.month) (day_matches s date.day w) has in
    let few = days_in_month_bounds year date.month in
    elim (picked s.any_day s.any_weekday (in_field s.days date.day) (on_weekday s w) day) as (λ _. HasDateIn s year) [
      | inl (on, why) ↦
          let same : Date = record { year = year; month = date.month; day = date.day; year_in = is_year; month_in = date.month_in; day_in = (date.day_in.0, in_leap_month date.year year date.month date.day leap date.day_in.1) } in
          let v : ℕ = (weekday_of same + 1) % 7 in
          record {
            date = same;
            in_year = refl;
            has = rw month (elim why as (λ _. day_matches s date.day v ≡ true) [
              | inl any ↦ by_both s.any_day s.any_weekday _ _ on (or_left (in_field s.weekdays v) _ (all.weekdays any v (omega arith)))
              | inr (day_restricted, weekday_restricted) ↦ by_day s.any_day s.any_weekday _ _ day_restricted weekday_restricted on
            ]);
          }
      | inr (on, restricted) ↦
          let d : ℕ = fall year date.month (weekday_of date) in
          let bounds = fall_within year date.month (weekday_of date) in
          let other : Date = record { year = year; month = date.month; day = d; year_in = is_year; month_in = date.month_in; day_in = (bounds.0, omega (arith, bounds.1, few)) } in
          let weekday : weekday_of other ≡ weekday_of date = falls_on year date.month (weekday_of date) (weekday_number_bound (epoch_day date)) in
          record {
            date = other;
            in_year = refl;
            has = rw month (rw weekday (by_weekday s.any_day s.any_weekday _ _ restricted on (λ any. all.days any d bounds.0 (omega (arith, bounds.1)))));
          }
    ]

-- ---- minutes

and_three : (a b c : Bool) → (a && b && c) ≡ true → ((a && b) ≡ true) × (c ≡ true)
and_three true true c e = (refl, e)
and_three true false c e = absurd (cc e)
and_three false b c e = absurd (cc e)

and_all : (a b c : Bool) → (a && b) ≡ true → c ≡ true → (a && b && c) ≡ true
and_all true true c h k = k
and_all true false c h k = absurd (cc h)
and_all false b c h k = absurd (cc h)

from_1970 : (d : Date) → pos 1_972 ≤ℤ d.year → pos 0 ≤ℤ epoch_day d
from_1970 d late =
    let later : pos 1_970 <ℤ d.year = omega (arith, signed_arith) in
    let civil : IsCivilDate (pos 1_970) 1 1 = (omega (arith, signed_arith), (omega arith, omega arith), (omega arith, omega arith)) in
    omega (arith, signed_arith, days_from_civil-day_count, day_count-epoch, day_count-lt_year (pos 1_970) 1 1 d.year d.month d.day civil d.day_in.0 later)

-- the time of day goes with any date from 1972 on
minute_on : (date : Date) (at : DateTime) (m : ℕ) → IsMinute m at → pos 1_972 ≤ℤ date.year → (n : ℕ) × IsMinute n (record { date = date; time = at.time })
minute_on date at m shown late =
    let other : DateTime = record { date = date; time = at.time } in
    let day = unsigned_abs (epoch_day date) in
    let begun = from_1970 date late in
    let parts = civil_nanos-parts at in
    let others = civil_nanos-parts other in
    (day * 1_440 + 2_880 + time_nanos at.time / 60_000_000_000, omega (arith, ints))

in_year : (spec : CronSpec) (s : Schedule) (minute : ℕ) (at : DateTime) (year : ℤ) → TakesAll s → Keeps spec s → IsMinute minute at → spec_matches spec at ≡ true → IsYear year → pos 1_972 ≤ℤ year → is_leap_year year ≡ true → FiresIn spec year
in_year spec s minute at year all keeps shown matching is_year late leap =
    let (time, date) = and_three (in_field s.minutes at.time.minute) (in_field s.hours at.time.hour) (date_matches s at.date) (sym (matches_is spec s at keeps) ∙ matching) in
    let found = date_in_leap_year s at.date year all is_year leap date in
    let other : DateTime = record { date = found.date; time = at.time } in
    let on = minute_on found.date at minute shown (subst (λ y. pos 1_972 ≤ℤ y) (sym found.in_year) late) in
    record {
      minute = on.0;
      at = other;
      in_year = found.in_year;
      shown = on.1;
      matching = matches_is spec s other keeps ∙ and_all (in_field s.minutes at.time.minute) (in_field s.hours at.time.hour) (date_matches s found.date) time found.has;
    }

pub fires_in_each_leap_year : (text : List ℕ) (spec : CronSpec) → IsRead (schedule_of text) (Ok spec) → (minute : ℕ) (at : DateTime) → IsMinute minute at → spec_matches spec at ≡ true
    → (year : ℤ) → IsYear year → pos 1_972 ≤ℤ year → is_leap_year year ≡ true → FiresIn spec year
fires_in_each_leap_year text spec read minute at shown matching year is_year late leap = go (schedule_of text) (λ s is. written_take_all text s (schedule_written text s is)) read
  where
    go : (o : Option Schedule) → ((s : Schedule) → o ≡ Some s → TakesAll s) → IsRead o (Ok spec) → FiresIn spec year
    go (Some s) all keeps = in_year spec s minute at year (all s refl) keeps shown matching is_year late leap
    go None all keeps = absurd keeps

-- ---- a leap year behind the years of runs

-- the minutes of 2204
pub minute_of_2204 : (at : DateTime) (m : ℕ) → at.date.year ≡ pos 2_204 → IsMinute m at → (85_468 * 1_440 ≤ m) × (m < 85_834 * 1_440)
minute_of_2204 at m is shown =
    let d = at.date in
    let first : day_count (pos 2_204) 1 1 ≡ 4_457_419 = day_count-early (pos 2_204) 12_203 1 1 refl (omega arith) (omega arith) (omega arith) in
    let same : day_count d.year 1 1 ≡ day_count (pos 2_204) 1 1 = ap (λ y. day_count y 1 1) is in
    let low : 4_457_419 ≤ day_count d.year d.month d.day = omega (arith, day_count-day_of_year d.year d.month d.day d.day_in.0, first, same) in
    let year : day_of_year d.year d.month d.day ≤ 366 = omega (arith, day_of_year_bound d.year d.month d.day (d.year_in, d.month_in, d.day_in), days_in_year_bounds d.year) in
    let high : day_count d.year d.month d.day ≤ 4_457_784 = omega (arith, day_count-day_of_year d.year d.month d.day d.day_in.0, first, same, year) in
    let days : (pos 85_466 ≤ℤ epoch_day d) × (epoch_day d ≤ℤ pos 85_831) = (omega (arith, signed_arith, days_from_civil-day_count, low), omega (arith, signed_arith, days_from_civil-day_count, high)) in
    let (from, to) = days in
    let parts = civil_nanos-parts at in
    let within = time_nanos_bound at.time in
    (omega (arith, ints), omega (arith, ints))
