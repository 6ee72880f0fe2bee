-- Which step comes next by itself: a close, an open, a settle or an expand.
use Rattle.std.specs.Prelude.{◌≡◌, ◌⊎◌, ℕ, ◌<◌, ◌≤◌, Option, None, Some}
use Rattle.bf_plan.specs.declared.plan.Dag.{Dag}
use Rattle.bf_plan.specs.Plans.{shape_of}
use Rattle.bf_graph.specs.Edges.{IsRank}
use Rattle.bf_core.specs.declared.event.Event.{Event}
use Rattle.bf_core.specs.Cores.{Backfill, MayCome}

-- the kinds of events in the order in which they come
abbrev pub kind_of : Event → ℕ
kind_of (Event.Close run) = 0
kind_of Event.Open = 1
kind_of (Event.Settle run task) = 2
kind_of (Event.Expand run task) = 3
kind_of (Event.Begin name) = 4
kind_of (Event.End name outcome) = 5
kind_of (Event.Tick moment) = 6

-- a step comes by itself: a close, an open, a settle or an expand
abbrev pub IsStep : Event → Type 0
IsStep event = kind_of event < 4

-- the task stands before the other, or is it: by rank, and then in the order of the file
abbrev pub StandsBefore : Dag → ℕ → ℕ → Type 0
StandsBefore dag task other =
    (rank other_rank : ℕ) → IsRank (shape_of dag).upstreams task rank
    → IsRank (shape_of dag).upstreams other other_rank → (rank < other_rank)
    ⊎ ((rank ≡ other_rank) × (task ≤ other))

-- the task in its run comes before the other in its own, or is it: by run, and in a run as the tasks stand
abbrev pub IsEarlier : Dag → ℕ → ℕ → ℕ → ℕ → Type 0
IsEarlier dag run task other_run other =
    (run < other_run) ⊎ ((run ≡ other_run) × StandsBefore dag task other)

-- the step comes before the other, or is it: by kind, then by run, by rank and in the order of the file
abbrev pub ComesBefore : Dag → Event → Event → Type 0
ComesBefore dag (Event.Close run) (Event.Close other_run) = run ≤ other_run
ComesBefore dag Event.Open Event.Open = Unit {0}
ComesBefore dag (Event.Settle run task) (Event.Settle other_run other) =
    IsEarlier dag run task other_run other
ComesBefore dag (Event.Expand run task) (Event.Expand other_run other) =
    IsEarlier dag run task other_run other
ComesBefore dag event other = kind_of event < kind_of other

-- the first of the steps that may come
pub record IsFirstStep (backfill : Backfill) (event : Event) : Type 0 where
  pub is_step : IsStep event
  pub may_come : MayCome backfill event
  pub first : (other : Event) → IsStep other → MayCome backfill other
      → ComesBefore backfill.dag event other

-- no step may come
abbrev pub NoStep : Backfill → Type 0
NoStep backfill = (other : Event) → IsStep other → ¬ (MayCome backfill other)

-- the first step, where one may come
abbrev pub IsNextStep : Backfill → Option Event → Type 0
IsNextStep backfill None = NoStep backfill
IsNextStep backfill (Some event) = IsFirstStep backfill event
