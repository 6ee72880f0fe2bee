use Rattle.std.proofs.Common.{◌≡◌, ℕ, ◌<◌, true}
use Rattle.bf_cron.specs.inner.Cron.{spec_has_time}
use Rattle.bf_cron.proofs.spec.CronSpec.first_time.Given as goal

abbrev pub invariant-loop-minute : goal.invariant-loop-minute
invariant-loop-minute l = (m : ℕ) → m < l.minute → spec_has_time l.self m ≡ true → ⊥
