-- What the command `run` reports: a run for each data interval of a range, with the programs of its tasks.
use Rattle.std.specs.Prelude.{◌≡◌, ℕ, ℤ, Bool, List, codes, Option, None, Some, Ok, Err}
use Rattle.bf_value.specs.declared.name.JobName.{JobName}
use Rattle.bf_read.specs.declared.draft.Draft.{Draft}
use Rattle.bf_check.specs.Checking.{dag_of}
use Rattle.bf_plan.specs.Plans.{task_of}
use Rattle.bf_plan.specs.declared.plan.Dag.{Dag}
use Rattle.bf_interval.specs.declared.interval.Interval.{Interval}
use Rattle.bf_xcom.specs.declared.values.Given.{Given}
use Rattle.bf_try.specs.declared.answers.Raw.{Raw}
use Rattle.bf_words.specs.declared.context.JobContext.{JobContext}
use Rattle.bf_failure.specs.Tried.{IsContextOf, log_of}
use Rattle.bf_process.specs.Words.{Launched, LaunchingOf, MayAnswer, MayGiveUp, Tried, lost_through, through}
use Rattle.bf_command_fault.specs.declared.fault.CommandFault.{CommandFault}
use Rattle.bf_command_fault.specs.declared.fault.CommandFault.TheVariants.{Range, CannotWrite, Stopped}
use Rattle.bf_command_fault.specs.declared.stop.StopFault.{StopFault}
use Rattle.bf_planning.specs.declared.range.RunRange.{RunRange}
use Rattle.bf_planning.specs.declared.plan.DatedPlan.{DatedPlan}
use Rattle.bf_planning.specs.Graphs.{IsGraph, IsFaultIn}
use Rattle.bf_planning.specs.Lists.{HasListing}
use Rattle.bf_commands.specs.Reported.{IsReportBy}
use Rattle.bf_planning.specs.Clocks.{AreClocksOf, clocks_in}

-- what is heard of programs that are started so
abbrev pub Hearing : Type 1
Hearing = Launched → Raw → Type 0

-- which of them may be lost: their logs can't be made, or they can't be waited for
abbrev pub Losing : Type 1
Losing = Launched → Type 0

-- what is heard of tries
abbrev pub HearingTries : Type 1
HearingTries = Tried → Raw → Type 0

-- the same launching, with this that clocks show
abbrev pub with_clocks : LaunchingOf → List ℤ → LaunchingOf
with_clocks launching clocks = record launching { clocks = clocks }

-- what is heard of tries that are launched so, with this that clocks show
abbrev pub launched_by : LaunchingOf → Hearing → List ℤ → HearingTries
launched_by launching may_hear clocks = through (with_clocks launching clocks) may_hear

-- what is heard of the tries of a plan with its runs that are launched so
abbrev pub launched_in : DatedPlan → LaunchingOf → Hearing → HearingTries
launched_in dated launching may_hear = launched_by launching may_hear (clocks_in dated)

-- the bytes say a graph, which has no fault, and the text is the report of its runs in the range, with the programs of its tasks
pub record IsRunReport (launching : LaunchingOf) (may_hear : Hearing) (graph : List ℕ)
    (file : Option (List ℕ)) (range : RunRange) (text : List ℕ) (success : Bool) : Type 0 where
  pub draft : Draft
  pub found : List Interval
  pub graph_is : IsGraph graph file draft
  pub listing : HasListing graph file range (Ok found)
  pub clocks : List ℤ
  pub clocks_are : AreClocksOf graph file found clocks
  pub reported : IsReportBy (MayAnswer (launched_by launching may_hear clocks) (dag_of draft) found)
      (dag_of draft) found text success

-- ---- what stops backfills

-- this is the path of the log of the try's standard output, below the folder of logs
pub record IsLogBelow (folder : List ℕ) (dag : Dag) (intervals : List Interval) (name : JobName)
    (path : List ℕ) : Type 0 where
  pub context : JobContext
  pub is_context : IsContextOf dag intervals name context
  pub path_is : path ≡ log_of folder context (codes ".out")

-- logs are kept, and this is that path
abbrev pub IsLogOf : Option (List ℕ) → Dag → List Interval → JobName → List ℕ → Type 0
IsLogOf None dag intervals name path = ⊥
IsLogOf (Some folder) dag intervals name path = IsLogBelow folder dag intervals name path

-- a worker can't be started; or a try was given up that may be, and this is its log, or its task, its index and its number
abbrev pub IsStopOf : (JobName → Given → Type 0) → Option (List ℕ) → Dag → List Interval → StopFault
    → Type 0
IsStopOf may_give_up logs dag intervals StopFault.CannotStart = Unit {0}
IsStopOf may_give_up logs dag intervals StopFault.CannotRecord = ⊥
IsStopOf may_give_up logs dag intervals (StopFault.EnoughFailed count) = ⊥
IsStopOf may_give_up logs dag intervals (StopFault.CannotLog path) =
    (name : JobName) × (given : Given) × may_give_up name given
    × IsLogOf logs dag intervals name path
IsStopOf may_give_up logs dag intervals (StopFault.GaveUp task index attempt) =
    (name : JobName) × (given : Given) × may_give_up name given
    × (task ≡ (task_of dag name.task).id) × (index ≡ name.index) × (attempt ≡ name.attempt)

-- which tries may be given up whose programs are launched so
abbrev pub MayGiveUpLaunched : LaunchingOf → Losing → Dag → List Interval → JobName → Given → Type 0
MayGiveUpLaunched launching may_lose dag intervals name given =
    MayGiveUp (lost_through launching may_lose) dag intervals name given

-- a worker can't be started; or the logs of this try can't be made; or its program can't be waited for
abbrev pub IsStop : LaunchingOf → Losing → Dag → List Interval → StopFault → Type 0
IsStop launching may_lose dag intervals stop =
    IsStopOf (MayGiveUpLaunched launching may_lose dag intervals) launching.logs dag intervals stop

-- the bytes say a graph, which has no fault, and the backfill of its runs in the range stops
pub record StopsRunning (launching : LaunchingOf) (may_lose : Losing) (graph : List ℕ)
    (file : Option (List ℕ)) (range : RunRange) (stop : StopFault) : Type 0 where
  pub draft : Draft
  pub found : List Interval
  pub graph_is : IsGraph graph file draft
  pub listing : HasListing graph file range (Ok found)
  pub clocks : List ℤ
  pub clocks_are : AreClocksOf graph file found clocks
  pub stops : IsStop (with_clocks launching clocks) may_lose (dag_of draft) found stop

-- the fault is the first: those of the graph go before those of the range; then the backfill stops; or memory or the device is wanting
abbrev pub RunFault : LaunchingOf → Losing → List ℕ → Option (List ℕ) → RunRange → CommandFault
    → Type 0
RunFault launching may_lose graph file range (Range fault) = HasListing graph file range (Err fault)
RunFault launching may_lose graph file range (CannotWrite n) = Unit {0}
RunFault launching may_lose graph file range (Stopped stop) =
    StopsRunning launching may_lose graph file range stop
RunFault launching may_lose graph file range fault = IsFaultIn graph file fault
