-- What a class of tasks holds of a backfill, and keeps over its events.
use Rattle.std.specs.Prelude.{◌≡◌, ℕ, ℤ, List, Contains, slice_get, slice_index, IfSome}
use Rattle.bf_core.specs.Cores.{Backfill}
use Rattle.bf_waiting.specs.declared.batches.Batch.{Batch}
use Rattle.bf_waiting.specs.declared.delays.Delay.{Delay}
use Rattle.bf_waiting.specs.Classes.{HasBatch, Waits, delay_of}
use Rattle.bf_waiting.specs.Standings.{IsDelayedAt, IsReadyAt}

-- the task of the batch is of the class, and its weight is the task's
pub record IsOfClass (weights class_of : List ℕ) (class : ℕ) (batch : Batch) : Type 0 where
  pub weighs : batch.weight ≡ slice_index weights batch.task.0
  pub belongs : slice_index class_of batch.task.0 ≡ class

-- the greatest of the batches begins with an instance that is ready
abbrev pub IsLive : Backfill → List Batch → Type 0
IsLive backfill items =
    IfSome (slice_get items 0) (λ batch. IsReadyAt backfill batch.run.0 batch.task.0 batch.first.0)

-- instances of the batches are passed over, none of them ready
pub record ArePassed (backfill : Backfill) (old new : List Batch) : Type 0 where
  pub kept : (run task place : ℕ) → IsReadyAt backfill run task place → HasBatch old run task place
      → HasBatch new run task place
  pub part : (batch : Batch) → Contains new batch → (whole : Batch) × Contains old whole
      × (batch.weight ≡ whole.weight) × (batch.task.0 ≡ whole.task.0)

-- so that the greatest of the batches is live
pub record IsCleaned (backfill : Backfill) (old new : List Batch) : Type 0 where
  pub passed : ArePassed backfill old new
  pub live : IsLive backfill new

-- what the class holds of a backfill: batches with each of its instances that is ready, and just those that are delayed
pub record HoldsWaiting (backfill : Backfill) (weights class_of : List ℕ) (class : ℕ)
    (waits : Waits) : Type 0 where
  pub batches : (batch : Batch) → Contains waits.batches.items batch
      → IsOfClass weights class_of class batch
  pub ready : (run task place : ℕ) → slice_index class_of task ≡ class
      → IsReadyAt backfill run task place → HasBatch waits.batches.items run task place
  pub delays : (delay : Delay) → Contains waits.delays.items delay
      → (slice_index class_of delay.task ≡ class)
      × IsDelayedAt backfill delay.run delay.task delay.place delay.moment.0
  pub delayed : (run task place : ℕ) (moment : ℤ) → slice_index class_of task ≡ class
      → IsDelayedAt backfill run task place moment
      → Contains waits.delays.items (delay_of run task place moment)

-- the same, and its greatest batch is live
pub record KeepsWaiting (backfill : Backfill) (weights class_of : List ℕ) (class : ℕ)
    (waits : Waits) : Type 0 where
  pub holds : HoldsWaiting backfill weights class_of class waits
  pub live : IsLive backfill waits.batches.items
