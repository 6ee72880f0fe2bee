use Rattle.std.proofs.Common.{◌≡◌, ℕ, ◌*◌, ◌<◌, true}
use Rattle.jiff.specs.Types.{DateTime}
use Rattle.bf_cron.specs.Cron.{spec_matches}
use Rattle.bf_cron.specs.Minutes.{IsMinute}
use Rattle.bf_cron.proofs.spec.CronSpec.never_fires.Given as goal

abbrev pub invariant-loop-day : goal.invariant-loop-day
invariant-loop-day l = (m : ℕ) (at : DateTime) → m < l.day * 1_440 → IsMinute m at → spec_matches l.self at ≡ true → ⊥
