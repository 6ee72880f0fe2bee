-- The civil minutes that schedules are looked for in: those of the dates 1969-12-30 to 2208-12-31.
use Rattle.std.specs.Prelude.{◌≡◌, ℕ, ◌*◌, ◌<◌, pos, ◌+ℤ◌, true}
use Rattle.jiff.specs.Types.{Date, DateTime}
use Rattle.jiff.specs.Words.{civil_nanos, epoch_day}
use Rattle.bf_cron.specs.declared.spec.CronSpec.{CronSpec}
use Rattle.bf_cron.specs.Cron.{spec_matches}

-- the number of the minutes
abbrev pub minutes : ℕ
minutes = 87_295 * 1_440

-- the clock shows the time m minutes after 1969-12-30T00:00
abbrev pub IsMinute : ℕ → DateTime → Type 0
IsMinute m at = civil_nanos at +ℤ pos 172_800_000_000_000 ≡ pos (m * 60_000_000_000)

-- the date is that many days after 1969-12-30
abbrev pub IsDay : ℕ → Date → Type 0
IsDay day date = epoch_day date +ℤ pos 2 ≡ pos day

-- no such minute matches
abbrev pub NeverFires : CronSpec → Type 0
NeverFires s = (m : ℕ) (at : DateTime) → m < minutes → IsMinute m at → spec_matches s at ≡ true → ⊥
