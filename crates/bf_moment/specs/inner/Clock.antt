-- What a clock shows, as text.
use Rattle.std.specs.Prelude.{◌≡◌, ℕ, pos, ◌≤ℤ◌, unsigned_abs, List, [], ◌∷◌, ◌++◌, ◌⊎◌}
use Rattle.jiff_core.specs.declared.civil.date.Date.{Date}
use Rattle.jiff_core.specs.declared.civil.time.Time.{Time}
use Rattle.jiff_core.specs.declared.civil.datetime.DateTime.{DateTime}
use Rattle.jiff_core.specs.Time.{time_seconds}
use Rattle.bf_moment.specs.Moment.{date_parts_text, time_parts_text}

-- the date lies in the year 0 or later
abbrev pub IsShownDate : Date → Type 0
IsShownDate d = pos 0 ≤ℤ d.year

abbrev pub clock_date_text : Date → List ℕ
clock_date_text d = date_parts_text (unsigned_abs d.year) d.month d.day

abbrev pub clock_time_text : Time → List ℕ
clock_time_text t = time_parts_text t.hour t.minute t.second

abbrev pub clock_text : DateTime → List ℕ
clock_text at = clock_date_text at.date ++ 84 ∷ clock_time_text at.time ++ 90 ∷ []

-- year, month, day, hour, minute and second
abbrev pub fields : DateTime → ℕ × ℕ × ℕ × ℕ × ℕ × ℕ
fields at = (
  unsigned_abs at.date.year,
  at.date.month,
  at.date.day,
  at.time.hour,
  at.time.minute,
  at.time.second,
)

-- the text spells what the clock shows to the second, or at midnight the date alone
pub record SpellsClock (spelled : List ℕ) (at : DateTime) : Type 0 where
  pub year : IsShownDate at.date
  pub whole : at.time.subsec_nanosecond ≡ 0
  pub text : (spelled ≡ clock_text at)
      ⊎ ((time_seconds at.time ≡ 0) × (spelled ≡ clock_date_text at.date))
