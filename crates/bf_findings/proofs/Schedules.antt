-- A text says one schedule.
use Rattle.std.proofs.Common.{◌≡◌, ℕ, List, Bool, true, false, not, Option, Some, None, Ok, IsTrue, ◌↔◌, refl, sym, ◌∙◌}
use Rattle.bf_cron.specs.Cron.{Schedule, schedule_of, IsRead}
use Rattle.bf_cron.specs.Minutes.{NeverFires}
use Rattle.bf_cron.specs.declared.spec.CronSpec.{CronSpec}
use Rattle.bf_cron.proofs.Rules.{matches_is}
use Rattle.bf_findings.specs.Judging.{IsSchedule}

never_twice : (spec other : CronSpec) (o : Option Schedule) → IsRead o (Ok spec) → IsRead o (Ok other) → NeverFires other → NeverFires spec
never_twice spec other None read again never = absurd read
never_twice spec other (Some s) read again never = λ m at h is e. never m at h is (matches_is other s at again ∙ sym (matches_is spec s at read) ∙ e)

pub no_schedule : (text : List ℕ) (spec : CronSpec) (never : Bool) → IsRead (schedule_of text) (Ok spec) → (IsTrue never ↔ NeverFires spec) → not never ≡ false → IsSchedule text → ⊥
no_schedule text spec true read never e said = said.1.fires (never_twice said.0 spec (schedule_of text) said.1.says read (never.0 refl))
no_schedule text spec false read never e said = cc
