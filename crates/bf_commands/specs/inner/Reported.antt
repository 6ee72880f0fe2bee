-- The text of the report of a backfill, and whether every run of it is a success.
use Rattle.std.specs.Prelude.{ℕ}
use Rattle.bf_value.specs.declared.name.JobName.{JobName}
use Rattle.bf_plan.specs.declared.plan.Dag.{Dag}
use Rattle.bf_plan.specs.declared.plan.Limits.{Limits}
use Rattle.bf_xcom.specs.declared.values.Given.{Given}
use Rattle.bf_try.specs.declared.answers.Raw.{Raw}
use Rattle.bf_try.specs.Tries.{AreAlike, Ledger}
use Rattle.bf_kept.specs.Kept.{AreGradedAnew}
use Rattle.bf_core.specs.Answered.{AreGraded}
use Rattle.bf_core.specs.Endings.{Ending, IsEndOf, KeepsWorkers}
use Rattle.bf_core.specs.Events.{entry_in}

-- the end of a backfill in which the kept tries stand as they are kept, every other has the grade of an answer that may come, as all
-- have where the kept ones do, and no more tries ran at once than there are workers
pub record IsEndFrom (kept : Ledger) (may_answer : JobName → Given → Raw
    → Type 0) (dag : Dag) (limits : Limits) (runs workers : ℕ) (ending : Ending) : Type 0 where
  pub of : IsEndOf dag limits runs ending
  pub again : AreAlike kept (entry_in ending.state.ledger)
  pub anew : AreGradedAnew kept may_answer dag (entry_in ending.state.ledger)
  pub all : AreGraded may_answer dag kept → AreGraded may_answer dag (entry_in ending.state.ledger)
  pub within : KeepsWorkers dag runs workers ending.journal
