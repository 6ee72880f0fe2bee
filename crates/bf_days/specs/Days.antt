-- Days, and what clocks show.
use Rattle.std.specs.Prelude.{◌≡◌, ℕ, ℤ, pos, ◌+ℤ◌, ◌≤ℤ◌, int_lt, List, ◌++◌, length, codes, Bool, not, ◌&&◌, ◌⊎◌}
use Rattle.jiff.specs.Types.{TimeZone}
use Rattle.jiff.specs.Words.{offset_at, nanos_of_seconds}
use Rattle.bf_moment.specs.Moment.{Spells, nearest, day_of}
use Rattle.bf_days.specs.declared.days.Days.{Days}

-- the text spells a day: it is the midnight in UTC of ten bytes that `bf_moment` reads, as 2024-03-04
pub record SpellsDay (text : List ℕ) (day : ℤ) : Type 0 where
  pub midnight : ℤ
  pub spells : Spells text midnight
  pub date : length text ≡ 10
  pub day_is : day ≡ day_of (nearest midnight)

-- a text of two days, with two dots between them
pub record SpellsRange (text : List ℕ) (days : Days) : Type 0 where
  pub before : List ℕ
  pub behind : List ℕ
  pub parts : text ≡ before ++ (codes ".." ++ behind)
  pub first : SpellsDay before days.first
  pub last : SpellsDay behind days.last

-- one day, or those from one to another
abbrev pub SpellDays : List ℕ → Days → Type 0
SpellDays text days = (SpellsDay text days.first × (days.last ≡ days.first)) ⊎ SpellsRange text days

-- the day that a clock of the zone shows at an instant, counted from 1970-01-01
abbrev pub day_shown_of : TimeZone → ℤ → ℤ
day_shown_of zone n = day_of (n +ℤ nanos_of_seconds (offset_at zone n))

-- a clock of the zone shows one of the days
abbrev pub is_on_day : TimeZone → Days → ℤ → Bool
is_on_day zone days n =
    not (int_lt (day_shown_of zone n) days.first) && not (int_lt days.last (day_shown_of zone n))

-- a day from 1970-01-01 to 2199-12-31
abbrev pub IsDayInYears : ℤ → Type 0
IsDayInYears day = (pos 0 ≤ℤ day) × (day ≤ℤ pos 84_005)
