-- What is known of how far the runs have come.
use Rattle.std.specs.Prelude.{◌≡◌, ℕ, ◌<◌, Bool, true, false, not, ◌&&◌, ◌||◌, List, length, Some, is_some, slice_get, slice_index}
use Rattle.bf_rule.specs.Verdicts.{is_waiting}
use Rattle.bf_plan.specs.declared.plan.Dag.{Dag}
use Rattle.bf_plan.specs.Plans.{is_branch_in}
use Rattle.bf_core.specs.Terms.{task_of}
use Rattle.bf_core.specs.declared.state.Cell.{Cell}
use Rattle.bf_core.specs.declared.state.Instance.{Instance}
use Rattle.bf_core.specs.declared.state.Phase.{Phase}
use Rattle.bf_core.specs.declared.state.State.{State}
use Rattle.bf_core.specs.Events.{cell_at, instance_of, value_in}
use Rattle.bf_core.specs.Cores.{Backfill}
use Rattle.bf_due.specs.declared.cursors.Cursors.{Cursors}

-- nothing more of the upstream is waited for in the run: it is settled, or it is early and the upstream is no branch
abbrev pub lets : Bool → Dag → State → ℕ → ℕ → Bool
lets early dag state run upstream =
    is_some (value_in (cell_at state run upstream))
    || (early && not (is_branch_in (task_of dag upstream)))

-- so it is with so many upstreams of the task, from the first on
abbrev pub ArePassed : Bool → Dag → State → ℕ → ℕ → ℕ → Type 0
ArePassed early dag state run task count =
    (place : ℕ) → place < count → place < length (task_of dag task).upstreams
    → lets early dag state run (slice_index (task_of dag task).upstreams place) ≡ true

-- the task need not wait for all of its upstreams
abbrev pub has_early_rule_in : Dag → ℕ → Bool
has_early_rule_in dag task = not (is_waiting (task_of dag task).rule)

abbrev pub IsFinished : Phase → Type 0
IsFinished (Phase.Finished outcome) = Unit {0}
IsFinished phase = ⊥

-- the cell has an instance at the place, and it has finished
abbrev pub HasFinished : Cell → ℕ → Type 0
HasFinished cell place =
    (instance : Instance) × (instance_of cell place ≡ Some instance) × IsFinished instance.phase

-- so many instances of the cell, from the first on, are there and have finished
abbrev pub AreFinished : Cell → ℕ → Type 0
AreFinished cell count = (place : ℕ) → place < count → HasFinished cell place

-- what is noted of the run is right
pub record IsNoted (backfill : Backfill) (run : ℕ) (row : Cursors) : Type 0 where
  pub passed : (task : ℕ) → ArePassed
      (has_early_rule_in backfill.dag task) backfill.dag backfill.state run task
      (slice_index row.passed.items task)
  pub upstreams : (task : ℕ) → ArePassed false backfill.dag backfill.state run task
      (slice_index row.settled_upstreams.items task)
  pub finished : (task : ℕ) → AreFinished (cell_at backfill.state run task)
      (slice_index row.finished.items task)
  pub settled : (task : ℕ) → task < row.settled
      → is_some (value_in (cell_at backfill.state run task)) ≡ true

-- the same, of the row of each run
abbrev pub AreNoted : Backfill → List Cursors → Type 0
AreNoted backfill rows =
    (run : ℕ) (row : Cursors) → slice_get rows run ≡ Some row → IsNoted backfill run row
