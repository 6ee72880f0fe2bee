-- The civil minutes of a year.
use Rattle.std.specs.Prelude.{◌≡◌, ℕ, ℤ, true}
use Rattle.jiff.specs.Types.{DateTime}
use Rattle.bf_cron.specs.declared.spec.CronSpec.{CronSpec}
use Rattle.bf_cron.specs.Cron.{spec_matches}
use Rattle.bf_cron.specs.Minutes.{IsMinute}

-- a civil minute of that year matches
pub record FiresIn (s : CronSpec) (year : ℤ) : Type 0 where
  pub minute : ℕ
  pub at : DateTime
  pub in_year : at.date.year ≡ year
  pub shown : IsMinute minute at
  pub matching : spec_matches s at ≡ true
