-- Each moment of a shown year has a clock that shows it.
use Rattle.std.proofs.Common.{◌≡◌, ℕ, zero, suc, ◌+◌, ◌/◌, ◌%◌, ◌<◌, ◌≤◌, List, Bool, true, false, cond, ℤ, pos, neg_ℤ, ◌<ℤ◌, ◌≤ℤ◌, unsigned_abs, refl, sym, ap, ◌∙◌, inl, inr, arith, rules}
use Rattle.std.proofs.lemmas.Int.{ints, by_lt_z}
use Rattle.std.proofs.lemmas.Bool.{cases_lt, cases_Bool}
use Rattle.std.specs.Int.{int_rem_euclid}
use Rattle.jiff_core.specs.declared.civil.date.Date.{Date}
use Rattle.jiff_core.specs.declared.civil.time.Time.{Time}
use Rattle.jiff_core.specs.declared.civil.datetime.DateTime.{DateTime}
use Rattle.jiff_core.specs.Calendar.{days_from_civil, days_in_month, day_count}
use Rattle.jiff_core.specs.Date.{epoch_day}
use Rattle.jiff_core.specs.DateTime.{civil_nanos}
use Rattle.jiff_core.specs.Time.{time_nanos}
use Rattle.jiff_core.specs.Timestamp.{IsTimestampNanos}
use Rattle.jiff_core.proofs.SignedLemmas.{signed_arith}
use Rattle.jiff_core.proofs.CalendarLemmas.{days_from_civil-day_count, days_in_month_bounds, day_count-end, day_count-lt_year, day_count-day_of_year}
use Rattle.jiff_core.proofs.DateLemmas.{days_from_civil-day, days_from_civil-next_month, days_from_civil-next_year}
use Rattle.jiff_core.proofs.DateTimeLemmas.{civil_nanos-parts, civil_nanos_range}
use Rattle.bf_moment.specs.Calendar.{last_up_to, has_come, year_on, month_on, day_on}
use Rattle.bf_moment.specs.Moment.{IsShown, Spells, nearest, day_of}
use Rattle.bf_moment.specs.inner.Clock.{IsShownDate, SpellsClock}
use Rattle.bf_moment.proofs.CalendarFacts.{come}
use Rattle.bf_moment.proofs.MomentFacts.{day_count_zero, shown_date, second_of_clock, date_text_of_clock, moment_text_of_clock}

record IsLast (p : ℕ → Bool) (n l : ℕ) : Type 0 where
  within : l ≤ n
  passes : p l ≡ true
  above : (j : ℕ) → l < j → j ≤ n → p j ≡ false

last_is_last : (p : ℕ → Bool) (n k : ℕ) → k ≤ n → p k ≡ true → IsLast p n (last_up_to p n)
unfolding last_up_to
last_is_last p zero k within passes =
    let same : k ≡ 0 = omega arith in
    record { within = omega arith; passes = rw same at passes; above = λ j low high. absurd (omega arith) }
last_is_last p (suc n) k within passes =
    elim (cases_Bool (p (suc n))) as (λ _. IsLast p (suc n) (cond (p (suc n)) (suc n) (last_up_to p n))) [
      | inl holds ↦ rw holds (record { within = omega arith; passes = holds; above = λ j low high. absurd (omega arith) })
      | inr fails ↦
          let before : k ≤ n = elim (cases_lt k (suc n)) as (λ _. k ≤ n) [ inl lt ↦ omega arith | inr ge ↦ let same : k ≡ suc n = omega arith in absurd (cc (ap p same)) ] in
          let rest = last_is_last p n k before passes in
          rw fails (record {
            within = omega (arith, rest.within);
            passes = rest.passes;
            above = λ j low high. elim (cases_lt j (suc n)) as (λ _. p j ≡ false) [ inl lt ↦ rest.above j low (omega arith) | inr ge ↦ let same : j ≡ suc n = omega arith in rw same fails ];
          })
    ]

-- no smaller than one that passes
no_smaller : (p : ℕ → Bool) (n l k : ℕ) → IsLast p n l → k ≤ n → p k ≡ true → k ≤ l
no_smaller p n l k last within passes =
    elim (cases_lt l k) as (λ _. k ≤ l) [ inl lt ↦ absurd (cc (last.above k lt within)) | inr ge ↦ ge ]

has_come_by : (day : ℤ) (y m d : ℕ) → has_come day y m d ≡ true → days_from_civil (pos y) m d ≤ℤ day
has_come_by day y m d h = grind (arith, ints)

comes_after : (day : ℤ) (y m d : ℕ) → has_come day y m d ≡ false → day <ℤ days_from_civil (pos y) m d
comes_after day y m d h = grind (arith, ints)

-- the day lies from the first of its month to the last
record IsInMonth (day : ℤ) (y m : ℕ) : Type 0 where
  year : y ≤ 9_999
  first : 1 ≤ m
  last : m ≤ 12
  from : days_from_civil (pos y) m 1 ≤ℤ day
  to : day ≤ℤ days_from_civil (pos y) m (days_in_month (pos y) m)

before_next_year : (day : ℤ) (y : ℕ) → day ≤ℤ pos 2_932_896 → IsLast (λ n. has_come day n 1 1) 9_999 y → day <ℤ days_from_civil (pos (y + 1)) 1 1
before_next_year day y high year =
    elim (cases_lt y 9_999) as (λ _. day <ℤ days_from_civil (pos (y + 1)) 1 1) [
      | inl lt ↦ comes_after day (y + 1) 1 1 (year.above (y + 1) (omega arith) (omega arith))
      | inr ge ↦ let same : y + 1 ≡ 10_000 = omega (arith, year.within) in rw same (omega (arith, signed_arith, days_from_civil-day_count, day_count-end))
    ]

in_month : (day : ℤ) (y m : ℕ) → day ≤ℤ pos 2_932_896 → IsLast (λ n. has_come day n 1 1) 9_999 y → IsLast (λ n. has_come day y n 1) 12 m → IsInMonth day y m
in_month day y m high year month =
    let january = has_come_by day y 1 1 year.passes in
    let first = no_smaller _ 12 m 1 month (omega arith) year.passes in
    record {
      year = year.within;
      first = first;
      last = month.within;
      from = has_come_by day y m 1 month.passes;
      to = elim (cases_lt m 12) as (λ _. day ≤ℤ days_from_civil (pos y) m (days_in_month (pos y) m)) [
        | inl lt ↦ omega (arith, signed_arith, comes_after day y (m + 1) 1 (month.above (m + 1) (omega arith) (omega arith)), days_from_civil-next_month (pos y) m (days_in_month (pos y) m) first refl)
        | inr ge ↦ let same : m ≡ 12 = omega (arith, month.within) in rw same (omega (arith, signed_arith, before_next_year day y high year, days_from_civil-next_year (pos y) (pos (y + 1)) (omega (arith, signed_arith)) (omega (arith, signed_arith))))
      ];
    }

date_in_month : (day : ℤ) (y m d : ℕ) → IsInMonth day y m → IsLast (λ n. has_come day y m n) 31 d → (date : Date) × (epoch_day date ≡ day)
date_in_month day y m d month last =
    let first = no_smaller _ 31 d 1 last (omega arith) (come day y m 1 month.from) in
    let come_by = has_come_by day y m d last.passes in
    let long = days_in_month_bounds (pos y) m in
    let steps = days_from_civil-day (pos y) m d (days_in_month (pos y) m) first (omega (arith, long)) in
    let within : d ≤ days_in_month (pos y) m = omega (arith, signed_arith, month.to) in
    let date : Date = record { year = pos y; month = m; day = d; year_in = omega (arith, signed_arith, month.year); month_in = (month.first, month.last); day_in = (first, within) } in (
      date,
      elim (cases_lt d 31) as (λ _. days_from_civil (pos y) m d ≡ day) [
        | inl lt ↦ omega (arith, signed_arith, comes_after day y m (d + 1) (last.above (d + 1) (omega arith) (omega arith)), days_from_civil-day (pos y) m d (d + 1) first (omega arith))
        | inr ge ↦ omega (arith, signed_arith, month.to)
      ],
    )

-- each day from the year 0 to the year 9999 has a date
date_of_day : (day : ℤ) → neg_ℤ (pos 719_528) ≤ℤ day → day ≤ℤ pos 2_932_896 → (d : Date) × (epoch_day d ≡ day)
date_of_day day low high =
    let year : IsLast (λ n. has_come day n 1 1) 9_999 (year_on day) = last_is_last _ 9_999 0 (omega arith) (come day 0 1 1 (omega (arith, signed_arith, days_from_civil-day_count, day_count_zero))) in
    let month : IsLast (λ n. has_come day (year_on day) n 1) 12 (month_on day) = last_is_last _ 12 1 (omega arith) year.passes in
    let inside = in_month day (year_on day) (month_on day) high year month in
    date_in_month day (year_on day) (month_on day) (day_on day) inside (last_is_last _ 31 1 (omega arith) (come day (year_on day) (month_on day) 1 inside.from))

time_of_nanos : (n : ℕ) → n < 86_400_000_000_000 → (t : Time) × (time_nanos t ≡ n)
time_of_nanos n h = (
  record {
    hour = n / 3_600_000_000_000;
    minute = n / 60_000_000_000 % 60;
    second = n / 1_000_000_000 % 60;
    subsec_nanosecond = n % 1_000_000_000;
    hour_in = omega arith;
    minute_in = omega arith;
    second_in = omega arith;
    subsec_in = omega arith;
  },
  omega arith,
)

pub clock_of : (n : ℤ) → IsShown n → (at : DateTime) × (civil_nanos at ≡ n)
clock_of n shown =
    let date = date_of_day (day_of n) (omega (arith, signed_arith, shown)) (omega (arith, signed_arith, shown)) in
    let time = time_of_nanos (unsigned_abs (int_rem_euclid n (pos 86_400_000_000_000))) (omega (arith, signed_arith)) in
    let at : DateTime = record { date = date.0; time = time.0 } in
    (at, omega (arith, signed_arith, civil_nanos-parts at, date.1, time.1))

-- ---- nearest

pub nearest_is : (n : ℤ) → neg_ℤ (pos 377_705_023_201_000_000_000) ≤ℤ n → ¬ (IsTimestampNanos n) → pos 253_402_207_200_999_999_999 ≡ nearest n
nearest_is n low none =
    by_lt_z (pos 253_402_207_200_999_999_999) n (λ lt. grind (arith, ints)) (λ ge. absurd (none (low, ge)))

-- a shown date lies in the range of moments that are shown
pub range_of_clock : (at : DateTime) → IsShownDate at.date → IsShown (civil_nanos at)
range_of_clock at shown =
    let d = at.date in
    let count = days_from_civil-day_count d.year d.month d.day in
    let parts = civil_nanos-parts at in
    by_lt_z (pos 0) d.year
    (λ lt. (omega (arith, signed_arith, parts, count, day_count_zero, day_count-lt_year (pos 0) 1 1 d.year d.month d.day (search rules) d.day_in.0 lt), (civil_nanos_range at).1))
    (λ le. let zero_year : d.year ≡ pos 0 = omega (arith, signed_arith) in
    let begun : day_count d.year 1 1 ≡ day_count (pos 0) 1 1 = ap (λ y. day_count y 1 1) zero_year in
    (omega (arith, signed_arith, parts, count, begun, day_count_zero, day_count-day_of_year d.year d.month d.day d.day_in.0), (civil_nanos_range at).1))

-- what spells a clock spells its moment
pub spells_moment : (bytes text : List ℕ) (at : DateTime) → bytes ≡ text → SpellsClock bytes at → Spells text (civil_nanos at)
spells_moment bytes text at same spells = record {
  shown = range_of_clock at spells.year;
  whole = omega (arith, signed_arith, civil_nanos-parts at, spells.whole);
  text = elim spells.text [
    | inl e ↦ inl (sym same ∙ e ∙ sym (moment_text_of_clock at (civil_nanos at) refl spells.year))
    | inr w ↦ inr (second_of_clock at (civil_nanos at) refl ∙ w.0, sym same ∙ w.1 ∙ sym (date_text_of_clock at (civil_nanos at) refl spells.year))
  ];
}

-- and what spells a moment spells its clock
pub spells_clock : (bytes text : List ℕ) (at : DateTime) (n : ℤ) → bytes ≡ text → civil_nanos at ≡ n → Spells text n → SpellsClock bytes at
spells_clock bytes text at n same e spells =
    let year = shown_date at n e spells.shown in
    record {
      year = year;
      whole = omega (arith, signed_arith, civil_nanos-parts at, spells.whole);
      text = elim spells.text [
        | inl whole ↦ inl (same ∙ whole ∙ moment_text_of_clock at n e year)
        | inr w ↦ inr (sym (second_of_clock at n e) ∙ w.0, same ∙ w.1 ∙ date_text_of_clock at n e year)
      ];
    }
