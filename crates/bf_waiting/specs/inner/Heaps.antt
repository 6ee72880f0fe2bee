-- Which of two batches begins first.
use Rattle.std.specs.Prelude.{◌≡◌, ◌⊎◌, ◌<◌, ◌≤◌}
use Rattle.bf_waiting.specs.declared.batches.Batch.{Batch}

-- in the order of runs, of the file and of map indices
abbrev pub StandsFirst : Batch → Batch → Type 0
StandsFirst batch other =
    (batch.run.0 < other.run.0) ⊎ ((batch.run.0 ≡ other.run.0)
    × ((batch.task.0 < other.task.0)
    ⊎ ((batch.task.0 ≡ other.task.0) × (batch.first.0 ≤ other.first.0))))

-- the batch begins before the other, or as it does
abbrev pub Leads : Batch → Batch → Type 0
Leads batch other =
    (other.weight < batch.weight) ⊎ ((other.weight ≡ batch.weight) × StandsFirst batch other)
