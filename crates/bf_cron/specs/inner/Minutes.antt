-- The civil minutes that schedules are looked for in: those of the dates 1969-12-30 to 2208-12-31.
use Rattle.std.specs.Prelude.{ℕ, ◌<◌}
use Rattle.jiff.specs.Types.{DateTime}
use Rattle.bf_cron.specs.Minutes.{minutes, IsMinute}

-- a civil minute of those dates
abbrev pub IsCivilMinute : DateTime → Type 0
IsCivilMinute at = (m : ℕ) × (m < minutes) × IsMinute m at
