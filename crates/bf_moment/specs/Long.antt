-- Texts of the long form, as 2024-01-31T06:05:09Z, of moments that exist.
use Rattle.std.specs.Prelude.{◌≡◌, ℕ, ℤ, ◌+◌, ◌-◌, ◌*◌, nat_le, nat_lt, Bool, ◌&&◌, pos, List, [], ◌∷◌, ◌++◌, slice_index_or}
use Rattle.std.specs.Str.{bytes_eq}
use Rattle.jiff_core.specs.Calendar.{days_in_month}
use Rattle.bf_moment.specs.Moment.{date_parts_text, time_parts_text, moment_text, IsShown, IsWhole}

-- the number that the digits say which stand from a place on, two and four
abbrev pub two_from : List ℕ → ℕ → ℕ
two_from text place =
    10 * (slice_index_or text place 0 - 48) + (slice_index_or text (place + 1) 0 - 48)

abbrev pub four_from : List ℕ → ℕ → ℕ
four_from text place = 100 * two_from text place + two_from text (place + 2)

-- the calendar has this day, in a year of four digits
abbrev pub is_date : ℕ → ℕ → ℕ → Bool
is_date year month day =
    nat_le year 9_999 && nat_le 1 month && nat_le month 12 && nat_le 1 day
    && nat_le day (days_in_month (pos year) month)

-- there is no hour 24 and no second 60
abbrev pub is_time : ℕ → ℕ → ℕ → Bool
is_time hour minute second = nat_lt hour 24 && nat_lt minute 60 && nat_lt second 60

-- the text is that of its own numbers, which are a date and a time of day
abbrev pub is_long_of : List ℕ → ℕ → ℕ → ℕ → ℕ → ℕ → ℕ → Bool
is_long_of text year month day hour minute second =
    bytes_eq text (date_parts_text year month day ++ 84 ∷ time_parts_text hour minute second ++ 90
    ∷ []) && is_date year month day && is_time hour minute second

unfoldable pub is_long : List ℕ → Bool
is_long text =
    is_long_of text (four_from text 0) (two_from text 5) (two_from text 8) (two_from text 11)
    (two_from text 14) (two_from text 17)

-- the text is that of a moment of whole seconds, in a year of four digits
pub record IsTextOfMoment (text : List ℕ) : Type 0 where
  pub moment : ℤ
  pub shown : IsShown moment
  pub whole : IsWhole moment
  pub is_text : text ≡ moment_text moment
