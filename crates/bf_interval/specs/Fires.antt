-- The fires of a schedule in a time zone, and its data intervals.
use Rattle.std.specs.Prelude.{◌≡◌, ℕ, ◌<◌, true, ℤ, ◌<ℤ◌, ◌≤ℤ◌}
use Rattle.jiff.specs.Types.{DateTime, TimeZone}
use Rattle.jiff.specs.Words.{picked_instant}
use Rattle.bf_cron.specs.Cron.{spec_matches}
use Rattle.bf_cron.specs.Minutes.{IsMinute, minutes}
use Rattle.bf_cron.specs.declared.spec.CronSpec.{CronSpec}

-- the schedule fires at an instant: it matches a civil minute, and the zone puts that minute there
pub record IsFire (spec : CronSpec) (zone : TimeZone) (instant : ℤ) : Type 0 where
  pub minute : ℕ
  pub in_dates : minute < minutes
  pub at : DateTime
  pub shown : IsMinute minute at
  pub matching : spec_matches spec at ≡ true
  pub placed : instant ≡ picked_instant zone at

-- a data interval: from a fire to the next one
pub record IsInterval (spec : CronSpec) (zone : TimeZone) (start end : ℤ) : Type 0 where
  pub opens : IsFire spec zone start
  pub closes : IsFire spec zone end
  pub rises : start <ℤ end
  pub next : (later : ℤ) → IsFire spec zone later → start <ℤ later → end ≤ℤ later
