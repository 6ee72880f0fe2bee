-- The date of a day, which is counted from 1970-01-01.
use Rattle.std.specs.Prelude.{ℕ, zero, suc, Bool, not, if◌then◌else◌, ℤ, pos, int_lt}
use Rattle.jiff_core.specs.Calendar.{days_from_civil}

-- the last number up to n that passes, or 0
unfoldable pub last_up_to : (ℕ → Bool) → ℕ → ℕ
last_up_to p zero = 0
last_up_to p (suc n) = if p (suc n) then suc n else last_up_to p n

-- the date has come by that day
abbrev pub has_come : ℤ → ℕ → ℕ → ℕ → Bool
has_come day y m d = not (int_lt day (days_from_civil (pos y) m d))

-- the day's year is the last one that has begun by then, its month the last one of that year, and so on
abbrev pub year_on : ℤ → ℕ
year_on day = last_up_to (λ y. has_come day y 1 1) 9_999

abbrev pub month_on : ℤ → ℕ
month_on day = last_up_to (λ m. has_come day (year_on day) m 1) 12

abbrev pub day_on : ℤ → ℕ
day_on day = last_up_to (λ d. has_come day (year_on day) (month_on day) d) 31
