-- The date of a day is jiff's.
use Rattle.std.proofs.Common.{◌≡◌, ℕ, zero, suc, ◌<◌, ◌≤◌, Bool, true, false, cond, ℤ, pos, negsuc, ◌<ℤ◌, ◌≤ℤ◌, unsigned_abs, refl, sym, inl, inr, arith}
use Rattle.std.proofs.lemmas.Int.{ints}
use Rattle.std.proofs.lemmas.Bool.{cases_lt}
use Rattle.jiff_core.specs.declared.civil.date.Date.{Date}
use Rattle.jiff_core.specs.Calendar.{days_from_civil}
use Rattle.jiff_core.specs.Date.{epoch_day}
use Rattle.jiff_core.proofs.SignedLemmas.{signed_arith}
use Rattle.jiff_core.proofs.CalendarLemmas.{days_from_civil-day_count, day_count-lt_year, day_count-lt_month, day_count-day, day_count-day_of_year, days_in_month_bounds}
use Rattle.jiff_core.proofs.DateLemmas.{civil}
use Rattle.bf_moment.specs.Calendar.{last_up_to, has_come, year_on, month_on, day_on}
use Rattle.bf_moment.specs.inner.Clock.{IsShownDate}

-- the last that passes is the one that passes with none above it
pub last_up_to_is : (p : ℕ → Bool) (n k : ℕ) → k ≤ n → p k ≡ true → ((j : ℕ) → k < j → j ≤ n → p j ≡ false) → last_up_to p n ≡ k
unfolding last_up_to
last_up_to_is p zero k within passes above = omega arith
last_up_to_is p (suc n) k within passes above =
    elim (cases_lt k (suc n)) as (λ _. cond (p (suc n)) (suc n) (last_up_to p n) ≡ k) [
      | inl lt ↦ rw (above (suc n) lt (omega arith)) (last_up_to_is p n k (omega arith) passes (λ j low high. above j low (omega arith)))
      | inr ge ↦ let same : k ≡ suc n = omega arith in rw (rw same at passes) (sym same)
    ]

pub come : (day : ℤ) (y m d : ℕ) → days_from_civil (pos y) m d ≤ℤ day → has_come day y m d ≡ true
come day y m d h = grind (arith, ints)

pub not_come : (day : ℤ) (y m d : ℕ) → day <ℤ days_from_civil (pos y) m d → has_come day y m d ≡ false
not_come day y m d h = grind (arith, ints)

year_is : (d : Date) (y : ℕ) → d.year ≡ pos y → year_on (epoch_day d) ≡ y
year_is d y e =
    last_up_to_is (λ y. has_come (epoch_day d) y 1 1) 9_999 y (omega (arith, signed_arith, d.year_in))
    (come _ y 1 1 (rw (← e) (omega (arith, signed_arith, days_from_civil-day_count, day_count-day_of_year d.year d.month d.day d.day_in.0))))
    (λ j above high. not_come _ j 1 1 (omega (arith, signed_arith, days_from_civil-day_count, day_count-lt_year d.year d.month d.day (pos j) 1 1 (civil d) (omega arith) (omega (arith, signed_arith)))))

month_is : (d : Date) (y : ℕ) → d.year ≡ pos y → last_up_to (λ m. has_come (epoch_day d) y m 1) 12 ≡ d.month
month_is d y e =
    last_up_to_is (λ m. has_come (epoch_day d) y m 1) 12 d.month d.month_in.1
    (come _ y d.month 1 (rw (← e) (omega (arith, signed_arith, days_from_civil-day_count, day_count-day d.year d.month 1 d.day (omega arith) d.day_in.0))))
    (λ j above high. not_come _ y j 1 (rw (← e) (omega (arith, signed_arith, days_from_civil-day_count, day_count-lt_month d.year d.month d.day j 1 (civil d) (omega arith) above))))

day_is : (d : Date) (y : ℕ) → d.year ≡ pos y → last_up_to (λ n. has_come (epoch_day d) y d.month n) 31 ≡ d.day
day_is d y e =
    last_up_to_is (λ n. has_come (epoch_day d) y d.month n) 31 d.day (omega (arith, d.day_in.1, days_in_month_bounds d.year d.month))
    (come _ y d.month d.day (rw (← e) (omega (arith, signed_arith))))
    (λ j above high. not_come _ y d.month j (rw (← e) (omega (arith, signed_arith, days_from_civil-day_count, day_count-day d.year d.month d.day j d.day_in.0 (omega arith)))))

pub abs_is : (z : ℤ) → pos 0 ≤ℤ z → z ≡ pos (unsigned_abs z)
abs_is (pos n) h = refl
abs_is (negsuc n) h = absurd (omega (arith, signed_arith))

-- the parts of a date are those of its day
pub date_on : (d : Date) → IsShownDate d → (year_on (epoch_day d) ≡ unsigned_abs d.year) × (month_on (epoch_day d) ≡ d.month) × (day_on (epoch_day d) ≡ d.day)
date_on d shown =
    let y = unsigned_abs d.year in
    let e : d.year ≡ pos y = abs_is d.year shown in
    let year = year_is d y e in
    let month : month_on (epoch_day d) ≡ d.month = rw year (month_is d y e) in
    (year, month, rw month (rw year (day_is d y e)))
