-- Which steps an event may make possible, and how an agenda gains and loses steps.
use Rattle.std.specs.Prelude.{◌≡◌, ◌⊎◌, ℕ, ◌+◌, ◌-◌, ◌<◌, true, false, is_some, List, Contains, IfSome, slice_get, slice_index}
use Rattle.bf_graph.specs.Edges.{IsUpstream}
use Rattle.bf_plan.specs.declared.plan.Dag.{Dag}
use Rattle.bf_plan.specs.Plans.{shape_of}
use Rattle.bf_core.specs.declared.event.Event.{Event}
use Rattle.bf_core.specs.declared.state.State.{State}
use Rattle.bf_core.specs.Cores.{Backfill, IsThere, MayCome}
use Rattle.bf_core.specs.Terms.{task_of}
use Rattle.bf_core.specs.Events.{next_run}
use Rattle.bf_due.specs.declared.agenda.Step.{Step}
use Rattle.bf_due.specs.declared.news.News.{News}
use Rattle.bf_due.specs.declared.cursors.Cursors.{Cursors}
use Rattle.bf_due.specs.Cursors.{AreNoted, IsNoted, has_early_rule_in}
use Rattle.bf_due.specs.Agendas.{event_of}
use Rattle.bf_due.specs.inner.Stirring.{decided_at, ended_at, is_settled, may_let_be_decided_in}
use Rattle.bf_due.specs.Dues.{HasAdded}

-- ---- what an event may make possible

-- a step of the task in the run
abbrev pub IsOfTask : ℕ → ℕ → Step → Type 0
IsOfTask run task (Step.Settle turn) = (turn.run ≡ run) × (turn.task ≡ task)
IsOfTask run task (Step.Expand turn) = (turn.run ≡ run) × (turn.task ≡ task)
IsOfTask run task step = ⊥

-- a step of the task in the run of the news, to which they matter
abbrev pub IsStirred : Dag → State → News → ℕ → Step → Type 0
IsStirred dag state news task step =
    IsOfTask news.run task step × (may_let_be_decided_in dag state news task ≡ true)

-- so it is with one of these tasks, of so many from the first on
abbrev pub IsOfFirst : Dag → State → News → List ℕ → ℕ → Step → Type 0
IsOfFirst dag state news tasks count step =
    (place : ℕ) × (place < count) × IsStirred dag state news (slice_index tasks place) step

-- a step of a task below the bound, in the run
abbrev pub IsBelow : ℕ → ℕ → Step → Type 0
IsBelow run bound (Step.Settle turn) = (turn.run ≡ run) × (turn.task < bound)
IsBelow run bound (Step.Expand turn) = (turn.run ≡ run) × (turn.task < bound)
IsBelow run bound step = ⊥

-- the close of the run
abbrev pub IsCloseOf : ℕ → Step → Type 0
IsCloseOf run (Step.Close closed) = closed ≡ run
IsCloseOf run step = ⊥

-- the opening of a run
abbrev pub IsOpening : Step → Type 0
IsOpening Step.Open = Unit {0}
IsOpening step = ⊥

-- a step of the run
abbrev pub IsOfRun : ℕ → Step → Type 0
IsOfRun run (Step.Close closed) = closed ≡ run
IsOfRun run Step.Open = ⊥
IsOfRun run (Step.Settle turn) = turn.run ≡ run
IsOfRun run (Step.Expand turn) = turn.run ≡ run

-- a step of a run below the bound
abbrev pub IsOfRunBelow : ℕ → Step → Type 0
IsOfRunBelow bound (Step.Close run) = run < bound
IsOfRunBelow bound Step.Open = ⊥
IsOfRunBelow bound (Step.Settle turn) = turn.run < bound
IsOfRunBelow bound (Step.Expand turn) = turn.run < bound

-- the task is below the one of the news, and they matter to it
abbrev pub IsBelowNews : Dag → State → News → ℕ → ℕ → Type 0
IsBelowNews dag state news run task =
    (run ≡ news.run) × IsUpstream (shape_of dag).upstreams news.task task
    × (may_let_be_decided_in dag state news task ≡ true)

-- the task in the run is the one of the news in the next run, and that one is settled now
abbrev pub IsBehindNews : State → News → ℕ → ℕ → Type 0
IsBehindNews state news run task =
    (run ≡ news.run + 1) × (task ≡ news.task) × (is_settled state news.run news.task ≡ true)

-- the news may let the task be decided in the run: it is below theirs, or the same in the next run
abbrev pub Hears : Dag → State → News → ℕ → ℕ → Type 0
Hears dag state news run task =
    IsBelowNews dag state news run task ⊎ IsBehindNews state news run task

-- a step of the tasks below the one of the news to which they matter, or the close of its run
abbrev pub IsUnder : Dag → State → News → Step → Type 0
IsUnder dag state news (Step.Close run) = run ≡ news.run
IsUnder dag state news Step.Open = ⊥
IsUnder dag state news (Step.Settle turn) = IsBelowNews dag state news turn.run turn.task
IsUnder dag state news (Step.Expand turn) = IsBelowNews dag state news turn.run turn.task

-- a step that the news may make possible
abbrev pub IsAround : Dag → State → News → Step → Type 0
IsAround dag state news (Step.Close run) = run ≡ news.run
IsAround dag state news Step.Open = ⊥
IsAround dag state news (Step.Settle turn) = Hears dag state news turn.run turn.task
IsAround dag state news (Step.Expand turn) = Hears dag state news turn.run turn.task

-- the run that was opened last, or the first while none is
abbrev pub newest : State → ℕ
newest state = next_run state - 1

-- the event that led to this state may have made the step possible
abbrev pub Concerns : Dag → State → Event → Step → Type 0
Concerns dag state Event.Open step = IsOfRun (newest state) step
Concerns dag state (Event.Settle run task) step =
    IsAround dag state (decided_at state run task) step
Concerns dag state (Event.Expand run task) step =
    IsAround dag state (decided_at state run task) step
Concerns dag state (Event.Begin name) step = ⊥
Concerns dag state (Event.End name outcome) step = IsAround dag state (ended_at dag state name) step
Concerns dag state (Event.Close run) step = IsOpening step
Concerns dag state (Event.Tick moment) step = ⊥

-- the task that the event decides, or of which a try ends, is there
abbrev pub SpeaksOfTask : Dag → State → Event → Type 0
SpeaksOfTask dag state Event.Open = Unit {0}
SpeaksOfTask dag state (Event.Settle run task) = IsThere dag state run task
SpeaksOfTask dag state (Event.Expand run task) = IsThere dag state run task
SpeaksOfTask dag state (Event.Begin name) = Unit {0}
SpeaksOfTask dag state (Event.End name outcome) = IsThere dag state name.run name.task
SpeaksOfTask dag state (Event.Close run) = Unit {0}
SpeaksOfTask dag state (Event.Tick moment) = Unit {0}

-- the task waits until its upstreams are settled, and for nothing else; and it isn't expanded
pub record WaitsForUpstreamsAlone (dag : Dag) (task : ℕ) : Type 0 where
  pub patient : has_early_rule_in dag task ≡ false
  pub single : is_some (task_of dag task).expand ≡ false
  pub alone : (task_of dag task).depends_on_past ≡ false

-- ---- while it is kept

-- first steps were taken out that may not come now
pub record IsPruned (backfill : Backfill) (old new : List Step) : Type 0 where
  pub kept : (step : Step) → Contains old step → MayCome backfill (event_of step)
      → Contains new step
  pub fewer : (step : Step) → Contains new step → Contains old step
  pub live : IfSome (slice_get new 0) (λ step. MayCome backfill (event_of step))

-- what was noted of the run is still right, where it was, and of these steps those that may come now were added
abbrev pub Asks : Backfill → ℕ → (Step → Type 0) → Cursors → Cursors → List Step → List Step
    → Type 0
Asks backfill run These before after old new =
    IsNoted backfill run before → IsNoted backfill run after × HasAdded backfill These old new

-- so it is with what was noted of all runs
abbrev pub AsksAll : Backfill → (Step → Type 0) → List Cursors → List Cursors → List Step
    → List Step → Type 0
AsksAll backfill These before after old new =
    AreNoted backfill before → AreNoted backfill after × HasAdded backfill These old new
