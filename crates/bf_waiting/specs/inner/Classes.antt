-- Classes of tasks that wait for the same slots.
use Rattle.std.specs.Prelude.{◌≡◌, ◌⊎◌, ℕ, ◌≤◌, ℤ, ◌≤ℤ◌, List, Contains, slice_index}
use Rattle.bf_waiting.specs.declared.batches.Batch.{Batch}
use Rattle.bf_waiting.specs.declared.delays.Delay.{Delay}

-- the batch of the one instance at the place of the task in the run
abbrev pub batch_of : List ℕ → ℕ → ℕ → ℕ → Batch
batch_of weights run task place =
    record {
      weight = slice_index weights task;
      run = record { 0 = run };
      task = record { 0 = task };
      first = record { 0 = place };
      last = place;
    }

-- the batch of the instances of the task in the run to that at the place
abbrev pub batch_to : List ℕ → ℕ → ℕ → ℕ → Batch
batch_to weights run task place =
    record {
      weight = slice_index weights task;
      run = record { 0 = run };
      task = record { 0 = task };
      first = record { 0 = 0 };
      last = place;
    }

-- delays went over to the batches, none of a moment later than now
pub record AreReleased (now : ℤ) (weights : List ℕ) (batches : List Batch) (delays : List Delay)
    (new_batches : List Batch) (new_delays : List Delay) : Type 0 where
  pub kept : (batch : Batch) → Contains batches batch → Contains new_batches batch
  pub no_more : (batch : Batch) → Contains new_batches batch → Contains batches batch
      ⊎ ((delay : Delay) × Contains delays delay
      × (batch ≡ batch_of weights delay.run delay.task delay.place))
  pub fewer : (delay : Delay) → Contains new_delays delay → Contains delays delay
  pub either : (delay : Delay) → Contains delays delay → Contains new_delays delay
      ⊎ ((delay.moment.0 ≤ℤ now) × Contains new_batches
      (batch_of weights delay.run delay.task delay.place))
