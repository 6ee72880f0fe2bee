-- What is kept of the tries of a backfill that wait.
use Rattle.std.specs.Prelude.{◌≡◌, ℕ, ◌<◌, List, length, slice_get, slice_index, Some}
use Rattle.bf_plan.specs.declared.plan.Dag.{Dag}
use Rattle.bf_plan.specs.declared.plan.Limits.{Limits}
use Rattle.bf_plan.specs.Sound.{demand_of}
use Rattle.bf_core.specs.declared.event.Event.{Event}
use Rattle.bf_core.specs.Cores.{Backfill, IsReplay, MayCome, moved}
use Rattle.bf_waiting.specs.declared.waiting.Waiting.{Waiting}
use Rattle.bf_pool.specs.Weights.{AreWeights}
use Rattle.bf_waiting.specs.Classes.{HasRoom, Waits}
use Rattle.bf_waiting.specs.Keeping.{KeepsWaiting}

-- the class of this number is there, and has a task that takes as many slots of the same pool as the task
pub record IsClassOf (dag : Dag) (limits : Limits) (classes : List Waits)
    (number task : ℕ) : Type 0 where
  pub class : Waits
  pub is_there : slice_get classes number ≡ Some class
  pub has_task : class.task < length dag.tasks
  pub same_pool : (demand_of limits class.task).pool ≡ (demand_of limits task).pool
  pub as_many : (demand_of limits class.task).slots ≡ (demand_of limits task).slots

-- each task has a class, and each class is kept for the backfill
pub record AreKept (backfill : Backfill) (weights class_of : List ℕ)
    (classes : List Waits) : Type 0 where
  pub replayed : IsReplay backfill
  pub weighted : AreWeights backfill.dag backfill.limits weights
  pub one_each : length class_of ≡ length backfill.dag.tasks
  pub classed : (task : ℕ) → task < length backfill.dag.tasks
      → IsClassOf backfill.dag backfill.limits classes (slice_index class_of task) task
  pub kept : (number : ℕ) (waits : Waits) → slice_get classes number ≡ Some waits
      → KeepsWaiting backfill weights class_of number waits

-- the tries of the backfill that wait are kept
abbrev pub KeepsTries : Backfill → Waiting → Type 0
KeepsTries backfill waiting =
    AreKept backfill waiting.weights.items waiting.class_of.items waiting.classes.items

-- where they are kept for a backfill, they are kept so for the one after the event
abbrev pub KeepsTriesOver : Event → Backfill → Waiting → Waiting → Type 0
KeepsTriesOver event now old new =
    (backfill : Backfill) → MayCome backfill event → now ≡ moved backfill event
    → KeepsTries backfill old → KeepsTries now new

-- the class of the task has room for one more instance that waits
abbrev pub HasRoomOf : ℕ → Waiting → Type 0
HasRoomOf task waiting =
    task < length waiting.class_of.items → (waits : Waits)
    → slice_get waiting.classes.items (slice_index waiting.class_of.items task) ≡ Some waits
    → HasRoom waits

-- there is room for what the event lets wait
abbrev pub HasRoomFor : Event → Waiting → Type 0
HasRoomFor (Event.Settle run task) waiting = HasRoomOf task waiting
HasRoomFor (Event.Expand run task) waiting = HasRoomOf task waiting
HasRoomFor (Event.End name outcome) waiting = HasRoomOf name.task waiting
HasRoomFor _ waiting = Unit {0}
