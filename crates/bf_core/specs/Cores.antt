-- What callers see of a core, what an event does to it, and which events are refused.
use Rattle.std.specs.Prelude.{◌≡◌, ◌⊎◌, ◌<◌, ◌≤◌, ◌++◌, ◌∷◌, [], Bool, true, false, ℕ, List, length, Some, ℤ, ◌<ℤ◌}
use Rattle.std.specs.FinMap as map
use Rattle.bf_plan.specs.Sound.{AreLimits}
use Rattle.bf_pool.specs.Slots.{Slots, occupied_of}
use Rattle.bf_core.specs.Terms.{Clock, Dag, Limits, JobName, State, Event, Instance, Phase, IsSound, task_of, map_index}
use Rattle.bf_core.specs.declared.event.Illegal.{Illegal}
use Rattle.bf_core.specs.Events.{IsLegal, replay, start, after, occupied, next_run, open_now, IsEnabled, IsPresent, HasEnded, cell_at, instance_of, entry_in, place_in}
use Rattle.bf_core.specs.Clocks.{AreTimely, IsMove, IsTimely, KeepsTime, clock_after, clock_of, start_clock}
use Rattle.bf_core.specs.Few.{AreFew, AreFitting}

-- the plan, how many runs there are, the state, the clock, and the events that led to them
pub record Backfill : Type 0 where
  pub dag : Dag
  pub limits : Limits
  pub runs : ℕ
  pub state : State
  pub clock : Clock
  pub journal : List Event

-- the backfill of no event
abbrev pub opening : Dag → Limits → ℕ → Backfill
opening dag limits runs =
    record {
      dag = dag;
      limits = limits;
      runs = runs;
      state = start dag runs;
      clock = start_clock;
      journal = [];
    }

-- the backfill after one more event
abbrev pub moved : Backfill → Event → Backfill
moved backfill event =
    record backfill {
      state = after backfill.dag backfill.state event;
      clock = clock_after backfill.dag backfill.limits backfill.clock event;
      journal = backfill.journal ++ event ∷ [];
    }

-- the events are legal and come in time, and lead from the start to the state
pub record IsJournal (dag : Dag) (limits : Limits) (runs : ℕ) (journal : List Event)
    (state : State) : Type 0 where
  pub legal : IsLegal dag limits (start dag runs) journal
  pub timely : AreTimely dag limits start_clock journal
  pub led_to : replay dag (start dag runs) journal ≡ state

-- the journal is legal, and leads to the state and the clock
pub record IsReplay (backfill : Backfill) : Type 0 where
  pub sound : IsSound backfill.dag
  pub by_journal : IsJournal backfill.dag backfill.limits backfill.runs backfill.journal
      backfill.state
  pub by_clock : clock_of backfill.dag backfill.limits start_clock backfill.journal ≡ backfill.clock

-- the event that the task is decided: by its expansion, or without
abbrev pub deciding : Bool → ℕ → ℕ → Event
deciding true run task = Event.Expand run task
deciding false run task = Event.Settle run task

-- ---- refusals

-- the run and the task are there
abbrev pub IsThere : Dag → State → ℕ → ℕ → Type 0
IsThere dag state run task = (run < length state.runs) × (task < length dag.tasks)

-- the task has an instance of that index now, which has come to that try
pub record IsKnown (dag : Dag) (state : State) (name : JobName) : Type 0 where
  pub there : IsThere dag state name.run name.task
  pub held : Instance
  pub is_held : instance_of (cell_at state name.run name.task) (place_in dag name) ≡ Some held
  pub is_named : map_index (task_of dag name.task) (place_in dag name) ≡ name.index
  pub from : 1 ≤ name.attempt
  pub to : name.attempt ≤ held.attempt

-- what the event speaks of is there
abbrev pub SpeaksOfThese : Dag → State → Event → Type 0
SpeaksOfThese dag state Event.Open = Unit {0}
SpeaksOfThese dag state (Event.Settle run task) = IsThere dag state run task
SpeaksOfThese dag state (Event.Expand run task) = IsThere dag state run task
SpeaksOfThese dag state (Event.Begin name) = IsKnown dag state name
SpeaksOfThese dag state (Event.End name outcome) = IsKnown dag state name
SpeaksOfThese dag state (Event.Close run) = run < length state.runs
SpeaksOfThese dag state (Event.Tick moment) = Unit {0}

-- the event is enabled, but for room in a pool
abbrev pub IsDue : Dag → Limits → State → Event → Type 0
IsDue dag limits state (Event.Begin name) = IsPresent dag state name Phase.Waiting
IsDue dag limits state event = IsEnabled dag limits state event

-- the first of these whose condition holds: a stranger, not enabled, no room; or memory was wanting
abbrev pub Refuses : Dag → Limits → State → Clock → Event → Illegal → Type 0
Refuses dag limits state clock event Illegal.Stranger = ¬ (SpeaksOfThese dag state event)
Refuses dag limits state clock event Illegal.NotEnabled =
    SpeaksOfThese dag state event × ¬ (IsDue dag limits state event × IsTimely clock event)
Refuses dag limits state clock event Illegal.NoRoom =
    IsDue dag limits state event × IsTimely clock event × ¬ (IsEnabled dag limits state event)
Refuses dag limits state clock event Illegal.OutOfMemory = Unit {0}

-- ---- of a backfill

-- the event may come now
abbrev pub MayCome : Backfill → Event → Type 0
MayCome backfill event =
    IsEnabled backfill.dag backfill.limits backfill.state event × IsTimely backfill.clock event

-- the try of that name waits, for a moment that is later than now
pub record WaitsLater (backfill : Backfill) (name : JobName) : Type 0 where
  pub waits : IsPresent backfill.dag backfill.state name Phase.Waiting
  pub moment : ℤ
  pub is_moment : map.get backfill.clock.moments name ≡ Some moment
  pub is_later : backfill.clock.time <ℤ moment

-- it has ended, or an event but a tick may come, or a try waits for a later moment
abbrev pub GoesOn : Backfill → Type 0
GoesOn backfill =
    HasEnded backfill.state ⊎ ((event : Event) × MayCome backfill event × IsMove event)
    ⊎ ((name : JobName) × WaitsLater backfill name)

-- the event could come, and it has come
abbrev pub HasCome : Backfill → Event → Backfill → Type 0
HasCome old event new = MayCome old event × (new ≡ moved old event)

-- why the event is refused
abbrev pub IsRefusal : Backfill → Event → Illegal → Type 0
IsRefusal backfill event fault =
    Refuses backfill.dag backfill.limits backfill.state backfill.clock event fault

-- ---- what a core keeps

pub record IsCore (backfill : Backfill) (pools : Slots) (rooms opened active : ℕ) : Type 0 where
  pub replayed : IsReplay backfill
  pub limits_fit : AreLimits backfill.dag backfill.limits
  pub few_runs : backfill.runs ≤ 4_096
  pub few : AreFew backfill.state
  pub in_time : KeepsTime backfill.clock (entry_in backfill.state.ledger)
  pub fitting : AreFitting backfill.dag backfill.state
  pub rooms_fit : rooms ≡ backfill.runs
  pub sizes : pools.sizes ≡ backfill.limits.pools
  pub held : (pool : ℕ) → occupied_of pools pool ≡ occupied backfill.limits backfill.state pool
  pub opened_are : opened ≡ next_run backfill.state
  pub active_are : active ≡ open_now backfill.state
