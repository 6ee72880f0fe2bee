-- How the instances of a backfill stand: which of them wait, and what for.
use Rattle.std.specs.Prelude.{◌≡◌, ℕ, ℤ, ◌<ℤ◌, List, [], Some}
use Rattle.std.specs.FinMap as map
use Rattle.bf_try.specs.Tries.{name_of}
use Rattle.bf_core.specs.declared.event.Event.{Event}
use Rattle.bf_core.specs.declared.state.Cell.{Cell}
use Rattle.bf_core.specs.declared.state.Instance.{Instance}
use Rattle.bf_core.specs.declared.state.Phase.{Phase}
use Rattle.bf_core.specs.Clocks.{IsTimely}
use Rattle.bf_core.specs.Cores.{Backfill}
use Rattle.bf_core.specs.Events.{cell_at, instance_of}

-- the instances of a cell
abbrev pub instances_of : Cell → List Instance
instances_of (Cell.Ran instances) = instances
instances_of cell = []

-- the instance at the place of the task in the run waits, and for nothing but room in its pool
pub record IsReadyAt (backfill : Backfill) (run task place : ℕ) : Type 0 where
  pub held : Instance
  pub is_held : instance_of (cell_at backfill.state run task) place ≡ Some held
  pub waits : held.phase ≡ Phase.Waiting
  pub timely : IsTimely backfill.clock
      (Event.Begin (name_of backfill.dag run task place held.attempt))

-- the instance at the place of the task in the run waits for the moment, which is later than now
pub record IsDelayedAt (backfill : Backfill) (run task place : ℕ) (moment : ℤ) : Type 0 where
  pub held : Instance
  pub is_held : instance_of (cell_at backfill.state run task) place ≡ Some held
  pub waits : held.phase ≡ Phase.Waiting
  pub is_moment : map.get backfill.clock.moments (name_of backfill.dag run task place held.attempt)
      ≡ Some moment
  pub is_later : backfill.clock.time <ℤ moment
