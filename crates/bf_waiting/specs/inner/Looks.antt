-- What a look at classes finds.
use Rattle.std.specs.Prelude.{◌≡◌, ◌⊎◌, ℕ, ◌<◌, ℤ, ◌≤ℤ◌, List, length, Contains, Option, None, Some, IfSome, IsTrue, slice_get}
use Rattle.bf_value.specs.declared.name.JobName.{JobName}
use Rattle.bf_try.specs.Tries.{name_of}
use Rattle.bf_core.specs.Cores.{Backfill}
use Rattle.bf_core.specs.Events.{cell_at, has_room_in, instance_of}
use Rattle.bf_waiting.specs.declared.batches.Batch.{Batch}
use Rattle.bf_waiting.specs.declared.delays.Delay.{Delay}
use Rattle.bf_waiting.specs.Classes.{Waits}
use Rattle.bf_waiting.specs.inner.Heaps.{Leads}

-- the batch leads those of the option
abbrev pub LeadsAny : Batch → Option Batch → Type 0
LeadsAny batch None = Unit {0}
LeadsAny batch (Some other) = Leads batch other

-- one of the two that leads both, where there is one
abbrev pub IsLeading : Option Batch → Option Batch → Option Batch → Type 0
IsLeading best found None = (best ≡ None) × (found ≡ None)
IsLeading best found (Some batch) =
    ((best ≡ Some batch) ⊎ (found ≡ Some batch)) × LeadsAny batch best × LeadsAny batch found

-- the class has room for a try
abbrev pub MayTake : Backfill → Waits → Type 0
MayTake backfill class =
    (class.task < length backfill.dag.tasks)
    × IsTrue (has_room_in backfill.limits backfill.state class.task)

-- of so many classes from the first on that have room, the batch at hand that leads all others
abbrev pub IsBestTo : Backfill → ℕ → List Waits → Option Batch → Type 0
IsBestTo backfill count classes None =
    (number : ℕ) (class : Waits) → number < count → slice_get classes number ≡ Some class
    → MayTake backfill class → slice_get class.batches.items 0 ≡ None
IsBestTo backfill count classes (Some batch) =
    ((number : ℕ) × (class : Waits) × (slice_get classes number ≡ Some class)
    × MayTake backfill class × (slice_get class.batches.items 0 ≡ Some batch))
    × ((number : ℕ) (class : Waits) (other : Batch) → number < count → slice_get classes number
    ≡ Some class → MayTake backfill class → Contains class.batches.items other
    → Leads batch other)

abbrev pub IsBestOf : Backfill → List Waits → Option Batch → Type 0
IsBestOf backfill classes best = IsBestTo backfill (length classes) classes best

-- the present try of the batch's first instance, where that is there
abbrev pub IsTryOfBatch : Backfill → Batch → Option JobName → Type 0
IsTryOfBatch backfill batch None =
    instance_of (cell_at backfill.state batch.run.0 batch.task.0) batch.first.0 ≡ None
IsTryOfBatch backfill batch (Some name) =
    IfSome (instance_of (cell_at backfill.state batch.run.0 batch.task.0) batch.first.0)
    (λ instance. name ≡ name_of backfill.dag batch.run.0 batch.task.0 batch.first.0
    instance.attempt)

-- of so many classes from the first on, the earliest moment
abbrev pub IsSoonestTo : ℕ → List Waits → Option ℤ → Type 0
IsSoonestTo count classes None =
    (number : ℕ) (class : Waits) (delay : Delay) → number < count → slice_get classes number
    ≡ Some class → ¬ (Contains class.delays.items delay)
IsSoonestTo count classes (Some moment) =
    ((number : ℕ) × (class : Waits) × (delay : Delay) × (slice_get classes number ≡ Some class)
    × Contains class.delays.items delay × (delay.moment.0 ≡ moment))
    × ((number : ℕ) (class : Waits) (delay : Delay) → number < count → slice_get classes number
    ≡ Some class → Contains class.delays.items delay → moment ≤ℤ delay.moment.0)

abbrev pub IsSoonestOf : List Waits → Option ℤ → Type 0
IsSoonestOf classes soonest = IsSoonestTo (length classes) classes soonest
