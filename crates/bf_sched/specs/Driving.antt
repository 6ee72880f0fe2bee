-- Backfills that a scheduler drives. For the clauses of what drives one.
use Rattle.std.specs.Prelude.{◌≡◌, ℕ}
use Rattle.bf_try.specs.Asked.{Asked}
use Rattle.bf_try.specs.declared.answers.Raw.{Raw}
use Rattle.bf_core.specs.Terms.{Dag, Given, JobName, Limits}
use Rattle.bf_core.specs.declared.state.Phase.{Phase}
use Rattle.bf_core.specs.Cores.{Backfill}
use Rattle.bf_core.specs.Driven.{IsDriven}
use Rattle.bf_core.specs.Events.{IsPresent, cell_at, given_in, place_in}
use Rattle.bf_sched.specs.Scheduling.{Schedule}

-- a backfill that is driven stays so, with as many workers
pub record StaysDriven (may : JobName → Given → Raw → Type 0) (old new : Schedule) : Type 0 where
  pub so : (dag : Dag) (limits : Limits) (runs : ℕ)
      → IsDriven may dag limits runs old.workers old.backfill
      → IsDriven may dag limits runs new.workers new.backfill
  pub workers : new.workers ≡ old.workers

-- the try of the ticket runs, with what was given to it
pub record IsUnderWay (backfill : Backfill) (ticket : Asked) : Type 0 where
  pub runs : IsPresent backfill.dag backfill.state ticket.name Phase.Running
  pub gives : given_in (cell_at backfill.state ticket.name.run ticket.name.task)
      (place_in backfill.dag ticket.name) ≡ ticket.given
