-- Backfills that have ended, and what always holds of them.
use Rattle.std.specs.Prelude.{◌≡◌, ◌≤◌, ◌++◌, ℕ, List}
use Rattle.bf_core.specs.Terms.{Dag, Event, Limits, RunState, State}
use Rattle.bf_core.specs.Events.{HasEnded, WithinPools, entry_in, replay, start}
use Rattle.bf_core.specs.Agreement.{AreRunStates, IsOutcome}
use Rattle.bf_core.specs.Cores.{Backfill, IsJournal}
use Rattle.bf_core.specs.Running.{running_now}

-- after each beginning of the journal no pool has more slots occupied, by the instances that run, than it has
pub record KeepsPools (dag : Dag) (limits : Limits) (runs : ℕ) (journal : List Event) : Type 0 where
  pub within : (before rest : List Event) → journal ≡ before ++ rest
      → WithinPools limits (replay dag (start dag runs) before)

-- after each beginning of the journal no more tries run than there are workers
pub record KeepsWorkers (dag : Dag) (runs workers : ℕ) (journal : List Event) : Type 0 where
  pub within : (before rest : List Event) → journal ≡ before ++ rest
      → running_now (replay dag (start dag runs) before) ≤ workers

-- a plan, how many runs there are, the state that they came to, the states of the runs, and the events that led to them
pub record Ending : Type 0 where
  pub dag : Dag
  pub limits : Limits
  pub runs : ℕ
  pub state : State
  pub run_states : List RunState
  pub journal : List Event

-- a backfill has ended so: all runs are closed, the cells and the states of the runs are the recursion's over the ledger, which
-- holds exactly the tries that the recursion asks for, and a legal journal that kept the pools led to them
pub record IsEnd (ending : Ending) : Type 0 where
  pub closed : HasEnded ending.state
  pub outcome : IsOutcome ending.dag ending.runs ending.state
  pub run_states : AreRunStates ending.dag
      (entry_in ending.state.ledger) ending.runs ending.run_states
  pub journal : IsJournal ending.dag ending.limits ending.runs ending.journal ending.state
  pub pools : KeepsPools ending.dag ending.limits ending.runs ending.journal

-- what a backfill has come to, with the states of its runs
abbrev pub ending_of : Backfill → List RunState → Ending
ending_of backfill run_states =
    record {
      dag = backfill.dag;
      limits = backfill.limits;
      runs = backfill.runs;
      state = backfill.state;
      run_states = run_states;
      journal = backfill.journal;
    }

-- the end of a backfill of this plan, of so many runs
pub record IsEndOf (dag : Dag) (limits : Limits) (runs : ℕ) (ending : Ending) : Type 0 where
  pub dag_is : ending.dag ≡ dag
  pub limits_are : ending.limits ≡ limits
  pub runs_are : ending.runs ≡ runs
