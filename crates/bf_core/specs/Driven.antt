-- Backfills of a plan whose tries were answered as they may be, on the way.
use Rattle.std.specs.Prelude.{◌≡◌, ℕ}
use Rattle.bf_plan.specs.Sound.{AreLimits}
use Rattle.bf_try.specs.declared.answers.Raw.{Raw}
use Rattle.bf_core.specs.Terms.{Dag, Given, JobName, Limits}
use Rattle.bf_core.specs.Events.{entry_in}
use Rattle.bf_core.specs.Cores.{Backfill, IsReplay}
use Rattle.bf_core.specs.Answered.{AreGraded}
use Rattle.bf_core.specs.Endings.{KeepsWorkers}

-- a backfill of the plan and of so many runs by so many workers, whose tries so far have grades of answers that may be given
pub record IsDriven (may_answer : JobName → Given → Raw
    → Type 0) (planned : Dag) (within : Limits) (many workers : ℕ)
    (backfill : Backfill) : Type 0 where
  pub dag : backfill.dag ≡ planned
  pub limits : backfill.limits ≡ within
  pub runs : backfill.runs ≡ many
  pub replayed : IsReplay backfill
  pub limits_fit : AreLimits backfill.dag backfill.limits
  pub graded : AreGraded may_answer backfill.dag (entry_in backfill.state.ledger)
  pub kept : KeepsWorkers backfill.dag backfill.runs workers backfill.journal
