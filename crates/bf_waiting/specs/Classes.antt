-- Classes of tasks that wait for the same slots.
use Rattle.std.specs.Prelude.{◌≡◌, ℕ, ◌+◌, ◌≤◌, ℤ, List, length, Contains}
use Rattle.bf_waiting.specs.declared.batches.Batch.{Batch}
use Rattle.bf_waiting.specs.declared.delays.Delay.{Delay}
use Rattle.bf_waiting.specs.Heaps.{Heap}

-- one of its tasks, the batches of its instances that may be ready, and those that are delayed
pub record Waits : Type 0 where
  pub task : ℕ
  pub batches : Heap Batch
  pub delays : Heap Delay

-- each delayed instance has room among the batches, for when its moment comes
abbrev pub IsRoomy : Heap Batch → Heap Delay → Type 0
IsRoomy batches delays = length batches.items + length delays.items ≤ batches.room

-- there is room for one more batch, and for one more delay
pub record HasRoom (class : Waits) : Type 0 where
  pub to_begin : length class.batches.items + length class.delays.items + 1 ≤ class.batches.room
  pub to_delay : length class.delays.items + 1 ≤ class.delays.room

-- the batch has the instance at the place of the task t in the run k
pub record Covers (batch : Batch) (k t place : ℕ) : Type 0 where
  pub run : batch.run.0 ≡ k
  pub task : batch.task.0 ≡ t
  pub from : batch.first.0 ≤ place
  pub to : place ≤ batch.last

-- one of the batches has it
abbrev pub HasBatch : List Batch → ℕ → ℕ → ℕ → Type 0
HasBatch items run task place = (batch : Batch) × Contains items batch × Covers batch run task place

-- the instance at the place waits for the moment
abbrev pub delay_of : ℕ → ℕ → ℕ → ℤ → Delay
delay_of run task place moment =
    record { moment = record { 0 = moment }; run = run; task = task; place = place }
