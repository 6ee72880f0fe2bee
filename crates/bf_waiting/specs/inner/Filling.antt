-- What is kept of the first tasks of a backfill, on the way to all of them.
use Rattle.std.specs.Prelude.{◌≡◌, ◌⊎◌, ℕ, ◌+◌, ◌<◌, ℤ, List, [], length, Contains, slice_get, slice_index, Some}
use Rattle.bf_plan.specs.declared.plan.Dag.{Dag}
use Rattle.bf_plan.specs.declared.plan.Limits.{Limits}
use Rattle.bf_core.specs.Cores.{Backfill}
use Rattle.bf_waiting.specs.declared.batches.Batch.{Batch}
use Rattle.bf_waiting.specs.declared.delays.Delay.{Delay}
use Rattle.bf_waiting.specs.declared.waiting.Waiting.{Waiting}
use Rattle.bf_pool.specs.Weights.{AreWeights}
use Rattle.bf_waiting.specs.Classes.{HasBatch, Waits, delay_of}
use Rattle.bf_waiting.specs.Keeping.{IsLive, IsOfClass}
use Rattle.bf_waiting.specs.Kept.{IsClassOf}
use Rattle.bf_waiting.specs.Standings.{IsDelayedAt, IsReadyAt}

-- the places before a bound
abbrev pub Before : ℕ → ℕ → Type 0
Before bound place = place < bound

-- the task in its run comes after the other in its own
abbrev pub IsLater : ℕ → ℕ → ℕ → ℕ → Type 0
IsLater run task other_run other = (other_run < run) ⊎ ((other_run ≡ run) × (other < task))

-- the class is kept for the backfill, as far as the tasks go that come before the task in the run
pub record KeepsEarlier (backfill : Backfill) (weights class_of : List ℕ) (run task class : ℕ)
    (waits : Waits) : Type 0 where
  pub batches : (batch : Batch) → Contains waits.batches.items batch
      → IsOfClass weights class_of class batch
  pub ready : (earlier_run earlier place : ℕ) → IsLater run task earlier_run earlier
      → slice_index class_of earlier ≡ class → IsReadyAt backfill earlier_run earlier place
      → HasBatch waits.batches.items earlier_run earlier place
  pub delays : (delay : Delay) → Contains waits.delays.items delay
      → (slice_index class_of delay.task ≡ class)
      × IsDelayedAt backfill delay.run delay.task delay.place delay.moment.0
  pub delayed : (earlier_run earlier place : ℕ) (moment : ℤ) → IsLater run task earlier_run earlier
      → slice_index class_of earlier ≡ class → IsDelayedAt backfill earlier_run earlier place moment
      → Contains waits.delays.items (delay_of earlier_run earlier place moment)
  pub live : IsLive backfill waits.batches.items

-- a class takes up the task in the run, where that is of it
abbrev pub TakesIn : Backfill → List ℕ → ℕ → ℕ → Waits → Waits → Type 0
TakesIn backfill weights run task old new =
    (class_of : List ℕ) (class : ℕ) → slice_index class_of task ≡ class
    → KeepsEarlier backfill weights class_of run task class old
    → KeepsEarlier backfill weights class_of run (task + 1) class new

-- each class is kept for the backfill, as far as the tasks go that come before the task in the run
pub record AreFilled (backfill : Backfill) (waiting : Waiting) (run task : ℕ) : Type 0 where
  pub weighted : AreWeights backfill.dag backfill.limits waiting.weights.items
  pub one_each : length waiting.class_of.items ≡ length backfill.dag.tasks
  pub classed : (other : ℕ) → other < length backfill.dag.tasks
      → IsClassOf backfill.dag backfill.limits waiting.classes.items
      (slice_index waiting.class_of.items other) other
  pub filled : (number : ℕ) (class : Waits) → slice_get waiting.classes.items number ≡ Some class
      → KeepsEarlier backfill waiting.weights.items waiting.class_of.items run task number class

-- the classes have tasks that are there, and hold nothing
abbrev pub AreEmpty : Dag → List Waits → Type 0
AreEmpty dag classes =
    (number : ℕ) (class : Waits) → slice_get classes number ≡ Some class
    → (class.task < length dag.tasks) × (class.batches.items ≡ []) × (class.delays.items ≡ [])

-- so many tasks, from the first on, have a class each
pub record AreClassedTo (dag : Dag) (limits : Limits) (tasks : ℕ) (class_of : List ℕ)
    (classes : List Waits) : Type 0 where
  pub count : length class_of ≡ tasks
  pub classed : (task : ℕ) → task < tasks
      → IsClassOf dag limits classes (slice_index class_of task) task
  pub empty : AreEmpty dag classes
