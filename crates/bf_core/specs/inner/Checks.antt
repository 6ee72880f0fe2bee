-- What the checks of an event look at.
use Rattle.std.specs.Prelude.{◌≡◌, ◌<◌, ◌≤◌, ℕ, List, length, Some, slice_get, slice_index_or}
use Rattle.bf_core.specs.Terms.{Dag, State, Cell, Phase, Run, RunPhase, RunState, JobName, Instance, TaskValue, task_of, map_index}
use Rattle.bf_core.specs.declared.names.Unfinished.{Unfinished}
use Rattle.bf_core.specs.declared.event.Illegal.{Illegal}
use Rattle.bf_core.specs.Recursion.{run_state_of}
use Rattle.bf_core.specs.Events.{value_in, row_of, cell_at, phase_of, instance_of, place_in}
use Rattle.bf_core.specs.inner.Events.{value_or_blocked}

-- each run has a cell for each task
abbrev pub HasRows : Dag → State → Type 0
HasRows dag state =
    (run : ℕ) → run < length state.runs → length (row_of state.runs run).cells ≡ length dag.tasks

abbrev pub IsUndecidedNow : State → ℕ → ℕ → Type 0
IsUndecidedNow state run task =
    (phase_of state run ≡ RunPhase.Open) × (cell_at state run task ≡ Cell.Undecided)

-- a stranger is not there, and what is not enabled is there but not due
abbrev pub RefusedFor : Type 0 → Type 0 → Illegal → Type 0
RefusedFor There Due Illegal.Stranger = ¬ There
RefusedFor There Due Illegal.NotEnabled = There × ¬ Due
RefusedFor There Due Illegal.NoRoom = ⊥
RefusedFor There Due Illegal.OutOfMemory = ⊥

-- the instance of that name is there
pub record IsOfName (dag : Dag) (state : State) (name : JobName)
    (instance : Instance) : Type 0 where
  pub is_held : instance_of (cell_at state name.run name.task) (place_in dag name) ≡ Some instance
  pub is_named : map_index (task_of dag name.task) (place_in dag name) ≡ name.index

-- the instance of that name is there, and has come to that try
pub record IsKnownAs (dag : Dag) (state : State) (name : JobName)
    (instance : Instance) : Type 0 where
  pub is_there : IsOfName dag state name instance
  pub from : 1 ≤ name.attempt
  pub to : name.attempt ≤ instance.attempt

-- the phase that is asked for
abbrev pub asked_phase : Unfinished → Phase
asked_phase Unfinished.Waiting = Phase.Waiting
asked_phase Unfinished.Running = Phase.Running

-- the value of a cell for its run's state, by its row
abbrev pub row_value : List Run → ℕ → ℕ → TaskValue
row_value runs run task =
    value_or_blocked (value_in (slice_index_or (row_of runs run).cells task Cell.Undecided))

-- each state is that of the run in its place
abbrev pub AreStatesOf : Dag → List Run → List RunState → Type 0
AreStatesOf dag runs states =
    (length states ≡ length runs) × ((run : ℕ) → run < length runs → slice_get states run
    ≡ Some (run_state_of dag (row_value runs run)))
