-- What is at hand when a try begins, and when one ends; and what either makes of its instance.
use Rattle.std.specs.Prelude.{◌≡◌, ◌<◌, ◌+◌, ◌^◌, length}
use Rattle.bf_core.specs.Terms.{Demand, Event, Instance, JobName, Outcome, Phase, demand_of, task_of}
use Rattle.bf_core.specs.Events.{IsEnabled, IsPresent, begun, cell_at, ended, given_in, is_made_again, place_in}
use Rattle.bf_core.specs.Clocks.{IsTimely, next_try_of}
use Rattle.bf_core.specs.Cores.{Backfill}
use Rattle.bf_core.specs.declared.clock.Retry.{Retry}
use Rattle.bf_core.specs.declared.machine.Ending.{Ending}
use Rattle.bf_core.specs.declared.state.Change.{Change}

-- the try waits, and its moment is reached; what it takes
pub record IsBeginning (backfill : Backfill) (name : JobName) (demand : Demand) : Type 0 where
  pub present : IsPresent backfill.dag backfill.state name Phase.Waiting
  pub timely : IsTimely backfill.clock (Event.Begin name)
  pub demand_is : demand ≡ demand_of backfill.limits name.task
  pub pool_there : demand.pool < length backfill.limits.pools

-- the next try of the same instance, whether it is made, and how long it waits
pub record IsRetry (backfill : Backfill) (name : JobName) (outcome : Outcome)
    (retry : Retry) : Type 0 where
  pub next_is : retry.next ≡ next_try_of name
  pub again_is : retry.again ≡ is_made_again
      (task_of backfill.dag name.task).retries name.attempt outcome
  pub delay_is : retry.delay ≡ (demand_of backfill.limits name.task).retry_delay

-- the try may end so; its entry, what it took, its task's retries, the place of its instance, and its next try
pub record IsEnding (backfill : Backfill) (name : JobName) (outcome : Outcome)
    (ending : Ending) : Type 0 where
  pub able : IsEnabled backfill.dag backfill.limits backfill.state (Event.End name outcome)
  pub entry_is : ending.entry ≡ record {
    given = given_in
        (cell_at backfill.state name.run name.task) (place_in backfill.dag name);
    outcome = outcome;
  }
  pub kept_is : ending.kept ≡ outcome
  pub demand_is : ending.demand ≡ demand_of backfill.limits name.task
  pub pool_there : ending.demand.pool < length backfill.limits.pools
  pub retries_are : ending.retries ≡ (task_of backfill.dag name.task).retries
  pub place_is : ending.place ≡ place_in backfill.dag name
  pub retry_is : IsRetry backfill name outcome ending.retry

-- the instance after a change
abbrev pub changed : Change → Instance → Instance
changed Change.Begin = begun
changed (Change.End retries outcome) = ended retries outcome

-- the number of a next try has room
abbrev pub IsCountable : Change → Type 0
IsCountable Change.Begin = Unit {0}
IsCountable (Change.End retries outcome) = retries + 1 < 2 ^ 32
