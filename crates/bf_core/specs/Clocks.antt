-- The clock beside the state: what it shows, the moments for which tries wait, and which events it lets come.
use Rattle.std.specs.Prelude.{◌≡◌, ℕ, suc, Bool, if◌then◌else◌, List, [], ◌∷◌, Option, None, Some, IsSome, ℤ, pos, ◌+ℤ◌, ◌≤ℤ◌, ◌<ℤ◌, int_lt}
use Rattle.std.specs.Int.{int_min}
use Rattle.std.specs.FinMap as map
use Rattle.bf_core.specs.Terms.{Clock, Dag, Event, JobName, Ledger, Limits, demand_of, task_of}
use Rattle.bf_core.specs.Events.{is_made_again}

abbrev pub last_moment : ℤ
last_moment = pos 253_402_300_799

-- the clock of no event
abbrev pub start_clock : Clock
start_clock = record { time = pos 0; moments = map.empty }

-- the next try of the same instance
abbrev pub next_try_of : JobName → JobName
next_try_of name =
    record { run = name.run; task = name.task; index = name.index; attempt = suc name.attempt }

-- the name waits for the moment, where that is later
abbrev pub waiting_for : Clock → JobName → ℤ → Clock
waiting_for clock name moment =
    if int_lt clock.time moment then record {
      time = clock.time;
      moments = map.insert clock.moments name moment;
    } else clock

-- the clock after the end of a try, whose next try waits so many seconds where it is made
unfoldable pub after_end : Clock → JobName → Bool → ℕ → Clock
after_end clock next again delay =
    if again then waiting_for clock next (int_min (clock.time +ℤ pos delay) last_moment) else clock

-- the clock after an event
abbrev pub clock_after : Dag → Limits → Clock → Event → Clock
clock_after dag limits clock (Event.Tick moment) = record { time = moment; moments = clock.moments }
clock_after dag limits clock (Event.Begin name) =
    record { time = clock.time; moments = map.remove clock.moments name }
clock_after dag limits clock (Event.End name outcome) =
    after_end clock (next_try_of name)
    (is_made_again (task_of dag name.task).retries name.attempt outcome)
    (demand_of limits name.task).retry_delay
clock_after dag limits clock Event.Open = clock
clock_after dag limits clock (Event.Settle run task) = clock
clock_after dag limits clock (Event.Expand run task) = clock
clock_after dag limits clock (Event.Close run) = clock

-- the moment is reached, where there is one
abbrev pub IsReached : ℤ → Option ℤ → Type 0
IsReached time None = Unit {0}
IsReached time (Some moment) = moment ≤ℤ time

-- the clock lets the event come: it goes on, and a try begins at its moment or later
abbrev pub IsTimely : Clock → Event → Type 0
IsTimely clock (Event.Tick moment) = (clock.time <ℤ moment) × (moment ≤ℤ last_moment)
IsTimely clock (Event.Begin name) = IsReached clock.time (map.get clock.moments name)
IsTimely clock Event.Open = Unit {0}
IsTimely clock (Event.Settle run task) = Unit {0}
IsTimely clock (Event.Expand run task) = Unit {0}
IsTimely clock (Event.End name outcome) = Unit {0}
IsTimely clock (Event.Close run) = Unit {0}

-- a list of events that the clock lets come each in its turn, and the clock that it leads to
abbrev pub AreTimely : Dag → Limits → Clock → List Event → Type 0
AreTimely dag limits clock [] = Unit {0}
AreTimely dag limits clock (event ∷ events) =
    IsTimely clock event × AreTimely dag limits (clock_after dag limits clock event) events

abbrev pub clock_of : Dag → Limits → Clock → List Event → Clock
clock_of dag limits clock [] = clock
clock_of dag limits clock (event ∷ events) =
    clock_of dag limits (clock_after dag limits clock event) events

-- what a core keeps of its clock: it is within its bounds, and a moment stands only under the next try of one that has ended
pub record KeepsTime (clock : Clock) (look : Ledger) : Type 0 where
  pub begun : pos 0 ≤ℤ clock.time
  pub within : clock.time ≤ℤ last_moment
  pub bounded : (name : JobName) (moment : ℤ) → map.get clock.moments name ≡ Some moment
      → moment ≤ℤ last_moment
  pub after_one : (name : JobName) → IsSome (map.get clock.moments (next_try_of name))
      → IsSome (look name)

-- the event is none of the clock
abbrev pub IsMove : Event → Type 0
IsMove (Event.Tick moment) = ⊥
IsMove _ = Unit {0}
