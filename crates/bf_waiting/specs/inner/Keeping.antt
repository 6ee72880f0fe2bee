-- What a class of tasks holds of a backfill, and keeps over its events.
use Rattle.std.specs.Prelude.{◌≡◌, ◌⊎◌, ℕ, ℤ, List, Contains, slice_index}
use Rattle.bf_value.specs.declared.name.JobName.{JobName}
use Rattle.bf_plan.specs.declared.plan.Dag.{Dag}
use Rattle.bf_core.specs.declared.event.Event.{Event}
use Rattle.bf_core.specs.Cores.{Backfill, IsReplay, MayCome, moved}
use Rattle.bf_core.specs.Events.{place_in}
use Rattle.bf_waiting.specs.declared.batches.Batch.{Batch}
use Rattle.bf_waiting.specs.declared.delays.Delay.{Delay}
use Rattle.bf_waiting.specs.Classes.{HasBatch, Waits, delay_of}
use Rattle.bf_waiting.specs.Standings.{IsDelayedAt, IsReadyAt}
use Rattle.bf_waiting.specs.Keeping.{KeepsWaiting}

-- a class that is kept for a backfill is kept so for the one after the event
abbrev pub KeepsOver : Event → Backfill → List ℕ → List ℕ → ℕ → Waits → Waits → Type 0
KeepsOver event now weights class_of class old new =
    (backfill : Backfill) → MayCome backfill event → now ≡ moved backfill event → IsReplay backfill
    → KeepsWaiting backfill weights class_of class old
    → KeepsWaiting now weights class_of class new

-- ---- what a class takes up

-- the instances at all places, and the one at a place
abbrev pub Anywhere : ℕ → Type 0
Anywhere place = Unit {0}

abbrev pub At : ℕ → ℕ → Type 0
At place here = here ≡ place

-- batches with those of the instances of the task in the run that are ready, of those of These
pub record HasTakenUp (backfill : Backfill) (weights : List ℕ) (run task : ℕ) (These : ℕ
    → Type 0) (old new : List Batch) : Type 0 where
  pub kept : (batch : Batch) → Contains old batch → Contains new batch
  pub no_more : (batch : Batch) → Contains new batch → Contains old batch
      ⊎ ((batch.weight ≡ slice_index weights task) × (batch.task.0 ≡ task))
  pub ready : (place : ℕ) → These place → IsReadyAt backfill run task place
      → HasBatch new run task place

-- and those that are delayed
pub record HasDelayed (backfill : Backfill) (run task : ℕ) (These : ℕ
    → Type 0) (old new : List Delay) : Type 0 where
  pub kept : (delay : Delay) → Contains old delay → Contains new delay
  pub no_more : (delay : Delay) → Contains new delay → Contains old delay
      ⊎ ((delay.task ≡ task) × IsDelayedAt backfill delay.run delay.task delay.place delay.moment.0)
  pub delayed : (place : ℕ) (moment : ℤ) → These place → IsDelayedAt backfill run task place moment
      → Contains new (delay_of run task place moment)

-- the name is of the instance at the place of the task in the run
abbrev pub IsOfPlace : Dag → JobName → ℕ → ℕ → ℕ → Type 0
IsOfPlace dag name run task place =
    (name.run ≡ run) × (name.task ≡ task) × (place_in dag name ≡ place)
