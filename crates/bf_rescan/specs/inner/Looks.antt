-- What a look at some of the tries finds, on the way to all of them.
use Rattle.std.specs.Prelude.{◌≡◌, ◌⊎◌, ℕ, ◌<◌, ℤ, ◌≤ℤ◌, Option, None, Some, nat_lt, if◌then◌else◌, List, slice_index}
use Rattle.bf_value.specs.declared.name.JobName.{JobName}
use Rattle.bf_plan.specs.declared.plan.Dag.{Dag}
use Rattle.bf_core.specs.declared.event.Event.{Event}
use Rattle.bf_core.specs.Cores.{Backfill, MayCome, WaitsLater}
use Rattle.bf_core.specs.Events.{place_in}
use Rattle.bf_waiting.specs.Choices.{IsPreferred}
use Rattle.bf_waiting.specs.Standings.{instances_of}
use Rattle.bf_waiting.specs.Looks.{earlier_moment_of}

-- a try of the task in the run
abbrev pub IsTryOf : ℕ → ℕ → JobName → Type 0
IsTryOf run task name = (name.run ≡ run) × (name.task ≡ task)

-- the same, of the instance at the place
abbrev pub IsTryAt : Dag → ℕ → ℕ → ℕ → JobName → Type 0
IsTryAt dag run task place name = IsTryOf run task name × (place_in dag name ≡ place)

-- a try of a run before this one, or in it of a task before this one
abbrev pub IsTryBefore : ℕ → ℕ → JobName → Type 0
IsTryBefore run task name = (name.run < run) ⊎ ((name.run ≡ run) × (name.task < task))

-- of these tries the first that may begin
abbrev pub IsBest : Backfill → (JobName → Type 0) → Option JobName → Type 0
IsBest backfill These None =
    (other : JobName) → These other → ¬ (MayCome backfill (Event.Begin other))
IsBest backfill These (Some name) =
    These name × MayCome backfill (Event.Begin name)
    × ((other : JobName) → These other → MayCome backfill (Event.Begin other)
    → IsPreferred backfill.dag backfill.limits name other)

-- the second where it weighs more, else the first
abbrev pub weightier_try_of : List ℕ → Option JobName → Option JobName → Option JobName
weightier_try_of weights None found = found
weightier_try_of weights (Some best) None = Some best
weightier_try_of weights (Some best) (Some other) =
    if nat_lt (slice_index weights best.task) (slice_index weights other.task) then Some other
    else Some best

-- a try of these waits for the moment, and none of these for an earlier one that is still to come
pub record IsLeast (backfill : Backfill) (These : JobName → Type 0) (moment : ℤ) : Type 0 where
  pub name : JobName
  pub is_one : These name
  pub waits : WaitsLater backfill name
  pub is_moment : waits.moment ≡ moment
  pub least : (other : JobName) → These other → (later : WaitsLater backfill other)
      → moment ≤ℤ later.moment

-- the least of the later moments for which these tries wait
abbrev pub IsSoonest : Backfill → (JobName → Type 0) → Option ℤ → Type 0
IsSoonest backfill These None = (name : JobName) → These name → ¬ (WaitsLater backfill name)
IsSoonest backfill These (Some moment) = IsLeast backfill These moment
