-- What a backfill of a plan comes to whose tries were answered as they may be.
use Rattle.std.specs.Prelude.{ℕ}
use Rattle.bf_try.specs.declared.answers.Raw.{Raw}
use Rattle.bf_core.specs.Terms.{Dag, Given, JobName, Limits}
use Rattle.bf_core.specs.Events.{entry_in}
use Rattle.bf_core.specs.Answered.{AreGraded}
use Rattle.bf_core.specs.Endings.{Ending, IsEndOf, KeepsWorkers}

-- what a backfill that is driven to its end comes to
pub record IsOver (may_answer : JobName → Given → Raw
    → Type 0) (dag : Dag) (limits : Limits) (runs workers : ℕ) (ending : Ending) : Type 0 where
  pub of : IsEndOf dag limits runs ending
  pub graded : AreGraded may_answer dag (entry_in ending.state.ledger)
  pub kept : KeepsWorkers dag runs workers ending.journal
