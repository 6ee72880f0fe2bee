-- Moments as texts. A moment is the number of nanoseconds since 1970-01-01T00:00:00Z.
use Rattle.std.specs.Prelude.{◌≡◌, ℕ, ◌+◌, ◌/◌, ◌%◌, ℤ, pos, neg_ℤ, unsigned_abs, List, [], ◌∷◌, ◌++◌, ◌⊎◌}
use Rattle.std.specs.Int.{int_div_euclid, int_rem_euclid, int_min}
use Rattle.jiff_core.specs.Calendar.{IsBetween}
use Rattle.bf_moment.specs.Calendar.{year_on, month_on, day_on}

-- two and four decimal digits
abbrev pub two : ℕ → List ℕ
two n = (48 + n / 10) ∷ (48 + n % 10) ∷ []

abbrev pub four : ℕ → List ℕ
four n = (48 + n / 1_000) ∷ (48 + n / 100 % 10) ∷ (48 + n / 10 % 10) ∷ (48 + n % 10) ∷ []

-- as 2024-01-31, and as 06:05:09
abbrev pub date_parts_text : ℕ → ℕ → ℕ → List ℕ
date_parts_text year month day = four year ++ 45 ∷ two month ++ 45 ∷ two day

abbrev pub time_parts_text : ℕ → ℕ → ℕ → List ℕ
time_parts_text hour minute second = two hour ++ 58 ∷ two minute ++ 58 ∷ two second

-- the day of a moment, counted from 1970-01-01, and the second of that day
abbrev pub day_of : ℤ → ℤ
day_of n = int_div_euclid n (pos 86_400_000_000_000)

abbrev pub second_of : ℤ → ℕ
second_of n = unsigned_abs (int_rem_euclid n (pos 86_400_000_000_000)) / 1_000_000_000

-- the date of a moment, as 2024-01-31
abbrev pub date_text : ℤ → List ℕ
date_text n = date_parts_text (year_on (day_of n)) (month_on (day_of n)) (day_on (day_of n))

-- its time of day, as 06:05:09
abbrev pub time_text : ℤ → List ℕ
time_text n = time_parts_text (second_of n / 3_600) (second_of n / 60 % 60) (second_of n % 60)

-- as 2024-01-31T06:05:09Z
unfoldable pub moment_text : ℤ → List ℕ
moment_text n = date_text n ++ 84 ∷ time_text n ++ 90 ∷ []

-- the moment lies in a year from 0 to 9999, which four digits show
abbrev pub IsShown : ℤ → Type 0
IsShown n = IsBetween (neg_ℤ (pos 62_167_219_200_000_000_000)) (pos 253_402_300_799_999_999_999) n

-- the moment is one of whole seconds
abbrev pub IsWhole : ℤ → Type 0
IsWhole n = int_rem_euclid n (pos 1_000_000_000) ≡ pos 0

-- the text spells the moment, which is one of whole seconds, or at midnight its date alone
pub record Spells (spelled : List ℕ) (n : ℤ) : Type 0 where
  pub shown : IsShown n
  pub whole : int_rem_euclid n (pos 1_000_000_000) ≡ pos 0
  pub text : (spelled ≡ moment_text n) ⊎ ((second_of n ≡ 0) × (spelled ≡ date_text n))

-- the moment or, where it lies past the last one that a `Timestamp` has, that one
abbrev pub nearest : ℤ → ℤ
nearest n = int_min n (pos 253_402_207_200_999_999_999)
