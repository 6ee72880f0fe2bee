-- A state of the machine beside the recursion over a ledger.
use Rattle.std.specs.Prelude.{◌≡◌, ℕ, suc, ◌<◌, length, List, [], ◌∷◌, map, Some, slice_get}
use Rattle.bf_core.specs.Terms.{Dag, Given, Entry, JobName, Ledger, RunState, TaskResult, result_of, name_of, State, Cell, Instance, Phase}
use Rattle.bf_core.specs.Deciding.{Decision}
use Rattle.bf_core.specs.Recursion.{run_state_of, out, decided, Asks, IsDefined}
use Rattle.bf_core.specs.Events.{cell_at, entry_in, place_in}

-- the ledger holds all entries of the other
abbrev pub Holds : Ledger → Ledger → Type 0
Holds ledger part =
    (name : JobName) (entry : Entry) → part name ≡ Some entry → ledger name ≡ Some entry

abbrev pub givens_of : List Instance → List Given
givens_of instances = map (λ instance. instance.given) instances

-- an instance that has finished at this try has this result
abbrev pub PhaseAgrees : TaskResult → ℕ → Phase → Type 0
PhaseAgrees result attempt (Phase.Finished outcome) =
    result ≡ record { outcome = outcome; tries = attempt }
PhaseAgrees result attempt _ = Unit {0}

-- each finished instance has its result, from this place on
abbrev pub HaveResults : (ℕ → TaskResult) → ℕ → List Instance → Type 0
HaveResults result_at place [] = Unit {0}
HaveResults result_at place (instance ∷ instances) =
    PhaseAgrees (result_at place) instance.attempt instance.phase
    × HaveResults result_at (suc place) instances

-- a decided task is what the recursion makes of it, with its instances and their Given; each finished instance has its result
abbrev pub CellAgrees : Decision → (ℕ → TaskResult) → Cell → Type 0
CellAgrees decision result_at Cell.Undecided = Unit {0}
CellAgrees decision result_at Cell.Blocked = decision ≡ Decision.Blocked
CellAgrees decision result_at Cell.Skipped = decision ≡ Decision.Skipped
CellAgrees decision result_at Cell.UpstreamFailed = decision ≡ Decision.UpstreamFailed
CellAgrees decision result_at (Cell.Ran instances) =
    (decision ≡ Decision.Instances (givens_of instances)) × HaveResults result_at 0 instances

-- each cell is what the recursion over the ledger makes of its task, as far as it has come
abbrev pub Agrees : Dag → State → Ledger → Type 0
Agrees dag state ledger =
    (run task : ℕ) → CellAgrees (decided dag ledger run task) (result_of dag ledger run task)
    (cell_at state run task)

-- ---- the end

-- the instances that the recursion makes, each finished, from this place on
abbrev pub finished_from : (ℕ → TaskResult) → ℕ → List Given → List Instance
finished_from result_at place [] = []
finished_from result_at place (given ∷ givens) =
    record {
      given = given;
      attempt = (result_at place).tries;
      phase = Phase.Finished (result_at place).outcome;
    } ∷ finished_from result_at (suc place) givens

-- the cell that the recursion makes
abbrev pub final_cell : Decision → (ℕ → TaskResult) → Cell
final_cell Decision.Wait result_at = Cell.Undecided
final_cell Decision.Blocked result_at = Cell.Blocked
final_cell Decision.Skipped result_at = Cell.Skipped
final_cell Decision.UpstreamFailed result_at = Cell.UpstreamFailed
final_cell (Decision.Instances givens) result_at = Cell.Ran (finished_from result_at 0 givens)

-- each try is one that the recursion asks for, in so many runs
abbrev pub AreAsked : Dag → ℕ → Ledger → Type 0
AreAsked dag runs ledger = (name : JobName) (entry : Entry) → ledger name ≡ Some entry →
    (name.run < runs) × (name.task < length dag.tasks)
    × (name ≡ name_of dag name.run name.task (place_in dag name) name.attempt)
    × Asks dag ledger name.run name.task (place_in dag name) name.attempt entry.given

-- the ledger holds the tries that the recursion over it asks for, and no other
pub record HoldsItsTries (dag : Dag) (runs : ℕ) (ledger : Ledger) : Type 0 where
  pub defined : IsDefined dag runs ledger
  pub asked : AreAsked dag runs ledger

-- the state's ledger holds its tries, and each cell is what the recursion over it makes of its task
pub record IsOutcome (dag : Dag) (runs : ℕ) (state : State) : Type 0 where
  pub tries : HoldsItsTries dag runs (entry_in state.ledger)
  pub cells : (run task : ℕ) → run < runs → task < length dag.tasks → cell_at state run task
      ≡ final_cell (decided dag (entry_in state.ledger) run task)
      (result_of dag (entry_in state.ledger) run task)

-- the states of the runs are the recursion's
abbrev pub AreRunStates : Dag → Ledger → ℕ → List RunState → Type 0
AreRunStates dag ledger runs states =
    (length states ≡ runs) × ((run : ℕ) → run < runs → slice_get states run
    ≡ Some (run_state_of dag (out dag ledger run)))
