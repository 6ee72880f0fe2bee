-- What is kept of a backfill, so that its next step is at hand.
use Rattle.std.specs.Prelude.{ℕ, ◌+◌, ◌≤◌, List, length, Contains, IfSome, slice_get}
use Rattle.bf_graph.specs.Edges.{IsRank}
use Rattle.bf_graph.specs.Ranks.{Ranking}
use Rattle.bf_plan.specs.declared.plan.Dag.{Dag}
use Rattle.bf_plan.specs.Plans.{shape_of}
use Rattle.bf_core.specs.Cores.{Backfill, IsReplay, MayCome}
use Rattle.bf_due.specs.declared.agenda.Step.{Step}
use Rattle.bf_due.specs.declared.cursors.Cursors.{Cursors}
use Rattle.bf_due.specs.Cursors.{AreNoted}
use Rattle.bf_due.specs.Agendas.{event_of}

-- the steps on the agenda, how many there is room for, and how far the runs have come
pub record Kept : Type 0 where
  pub steps : List Step
  pub room : ℕ
  pub progress : List Cursors

-- ---- the agenda

-- the rank that the step is ordered by is its task's
abbrev pub IsRanked : Dag → Step → Type 0
IsRanked dag (Step.Settle turn) = IsRank (shape_of dag).upstreams turn.task turn.rank
IsRanked dag (Step.Expand turn) = IsRank (shape_of dag).upstreams turn.task turn.rank
IsRanked dag step = Unit {0}

-- the step may come
abbrev pub IsDueStep : Backfill → Step → Type 0
IsDueStep backfill step = IsRanked backfill.dag step × MayCome backfill (event_of step)

-- each step that may come is on the agenda, and the first on it may come
pub record IsUpToDate (backfill : Backfill) (kept : Kept) : Type 0 where
  pub replayed : IsReplay backfill
  pub ranking : Ranking (shape_of backfill.dag).upstreams
  pub holds : (step : Step) → IsDueStep backfill step → Contains kept.steps step
  pub ranked : (step : Step) → Contains kept.steps step → IsRanked backfill.dag step
  pub live : IfSome (slice_get kept.steps 0) (λ step. MayCome backfill (event_of step))
  pub reached : AreNoted backfill kept.progress

-- ---- room

-- there is room for a step of each task, and two more: for as many as an event may make possible
abbrev pub HasRoom : Dag → List Step → ℕ → Type 0
HasRoom dag steps room = length steps + (length dag.tasks + 2) ≤ room

-- so it is with what is kept, which has a row for each run
abbrev pub HasRoomForSteps : Backfill → Kept → Type 0
HasRoomForSteps backfill kept =
    HasRoom backfill.dag kept.steps kept.room × (backfill.runs ≤ length kept.progress)

-- ---- while it is kept

-- each of these steps is ordered by its task's rank
abbrev pub AreRanked : Dag → List Step → Type 0
AreRanked dag steps = (step : Step) → Contains steps step → IsRanked dag step

-- of these steps those that may come now were added
pub record HasAdded (backfill : Backfill) (These : Step
    → Type 0) (old new : List Step) : Type 0 where
  pub kept : (step : Step) → Contains old step → Contains new step
  pub added : (step : Step) → These step → IsDueStep backfill step → Contains new step
  pub ranked : AreRanked backfill.dag old → AreRanked backfill.dag new
