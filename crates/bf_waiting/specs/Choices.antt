-- Which try begins next, and which moment is waited for.
use Rattle.std.specs.Prelude.{◌≡◌, ◌⊎◌, ℕ, ◌<◌, ◌≤◌, ℤ, ◌≤ℤ◌, Option, None, Some}
use Rattle.bf_value.specs.declared.name.JobName.{JobName}
use Rattle.bf_plan.specs.declared.plan.Dag.{Dag}
use Rattle.bf_plan.specs.declared.plan.Limits.{Limits}
use Rattle.bf_pool.specs.Weights.{total_weight_of}
use Rattle.bf_core.specs.declared.event.Event.{Event}
use Rattle.bf_core.specs.Cores.{Backfill, MayCome, WaitsLater}
use Rattle.bf_core.specs.Events.{place_in}

-- ---- tries

-- by run, then in the order of the file, then by map index
abbrev pub NameComesBefore : Dag → JobName → JobName → Type 0
NameComesBefore dag name other =
    (name.run < other.run) ⊎ ((name.run ≡ other.run)
    × ((name.task < other.task) ⊎ ((name.task ≡ other.task)
    × (place_in dag name ≤ place_in dag other))))

-- it weighs more than the other, or as much and comes before it, or is it
abbrev pub IsPreferred : Dag → Limits → JobName → JobName → Type 0
IsPreferred dag limits name other =
    (total_weight_of dag limits other.task < total_weight_of dag limits name.task)
    ⊎ ((total_weight_of dag limits other.task ≡ total_weight_of dag limits name.task)
    × NameComesBefore dag name other)

-- of the tries that may begin now the one of the greatest total weight, and of several the first
pub record IsFirstTry (backfill : Backfill) (name : JobName) : Type 0 where
  pub may_begin : MayCome backfill (Event.Begin name)
  pub first : (other : JobName) → MayCome backfill (Event.Begin other)
      → IsPreferred backfill.dag backfill.limits name other

-- none may begin now: each that waits lacks room in its pool, or waits for a later moment
abbrev pub NoTry : Backfill → Type 0
NoTry backfill = (name : JobName) → ¬ (MayCome backfill (Event.Begin name))

-- the first try, where one may begin
abbrev pub IsNextTry : Backfill → Option JobName → Type 0
IsNextTry backfill None = NoTry backfill
IsNextTry backfill (Some name) = IsFirstTry backfill name

-- ---- moments

-- a try waits for the moment, and none for an earlier one that is still to come
pub record IsFirstMoment (backfill : Backfill) (moment : ℤ) : Type 0 where
  pub name : JobName
  pub waits : WaitsLater backfill name
  pub is_moment : waits.moment ≡ moment
  pub least : (other : JobName) (later : WaitsLater backfill other) → moment ≤ℤ later.moment

-- the least of the later moments for which tries wait, where one waits for a moment
abbrev pub IsNextMoment : Backfill → Option ℤ → Type 0
IsNextMoment backfill None = (name : JobName) → ¬ (WaitsLater backfill name)
IsNextMoment backfill (Some moment) = IsFirstMoment backfill moment
