-- What is reported of a backfill that records its tries: it goes on from those of its journal, and else from those that were kept before.
use Rattle.std.specs.Prelude.{◌≡◌, ℕ, ℤ, Bool, List, [], ◌∷◌, slice_get, Option, Some, None, Ok}
use Rattle.bf_value.specs.declared.name.JobName.{JobName}
use Rattle.bf_read.specs.declared.draft.Draft.{Draft}
use Rattle.bf_check.specs.Checking.{dag_of}
use Rattle.bf_plan.specs.declared.plan.Dag.{Dag}
use Rattle.bf_plan.specs.Plans.{task_of}
use Rattle.bf_interval.specs.declared.interval.Interval.{Interval}
use Rattle.bf_xcom.specs.declared.values.Given.{Given}
use Rattle.bf_try.specs.declared.answers.Raw.{Raw}
use Rattle.bf_try.specs.Tries.{Ledger}
use Rattle.bf_table.specs.declared.table.TableEntry.{TableEntry}
use Rattle.bf_kept.specs.Kept.{IsNew, nothing}
use Rattle.bf_process.specs.Words.{LaunchingOf, MayAnswer}
use Rattle.bf_journal.specs.declared.head.ClearedTask.{ClearedTask}
use Rattle.bf_journal.specs.Found.{IsFault}
use Rattle.bf_journal.specs.Heads.{head_text}
use Rattle.bf_journal.specs.Left.{IsFoundIn}
use Rattle.bf_journal.specs.Since.{left_of, since}
use Rattle.bf_report.specs.declared.report.Report.{Report}
use Rattle.bf_dependents.specs.declared.place.Place.{Place}
use Rattle.bf_command_fault.specs.declared.fault.CommandFault.{CommandFault}
use Rattle.bf_command_fault.specs.declared.fault.CommandFault.TheVariants.{Journal as BadJournal, Stopped}
use Rattle.bf_command_fault.specs.declared.stop.StopFault.{StopFault}
use Rattle.bf_commands.specs.declared.cleared.ToClear.{ToClear}
use Rattle.bf_planning.specs.declared.range.RunRange.{RunRange}
use Rattle.bf_report_reader.specs.Reading.{IsReadAs}
use Rattle.bf_commands.specs.Cleared.{AreAnswersIn, IsKeptOf, IsReady, MayAnswerBy}
use Rattle.bf_planning.specs.Graphs.{IsGraph}
use Rattle.bf_planning.specs.Lists.{HasListing}
use Rattle.bf_planning.specs.Wanting.{IsWanting}
use Rattle.bf_planning.specs.Clocks.{AreClocksOf}
use Rattle.bf_commands.specs.Programs.{Hearing, HearingTries, IsStopOf, launched_by}
use Rattle.bf_commands.specs.Reported.{IsReportFrom}

-- what the head of a journal tells of what is cleared
abbrev pub Heading : Type 0
Heading = List ClearedTask

-- the task of the place, the start of its run, and its index
pub record IsToldOf (dag : Dag) (interval : Interval) (place : Place)
    (cleared : ClearedTask) : Type 0 where
  pub task_is : cleared.task ≡ (task_of dag place.task).id
  pub run_is : cleared.run.at.nanosecond ≡ interval.start.nanosecond
  pub index_is : cleared.index ≡ place.index

abbrev pub TellsFirst : Dag → Option Interval → Place → (Heading → Type 0) → Heading → Type 0
TellsFirst dag None place TellsRest cleared = TellsRest cleared
TellsFirst dag (Some interval) place TellsRest [] = ⊥
TellsFirst dag (Some interval) place TellsRest (first ∷ rest) =
    IsToldOf dag interval place first × TellsRest rest

-- of a backfill that clears these places, it tells of each, in order
abbrev pub TellsOf : Dag → List Interval → List Place → Heading → Type 0
TellsOf dag intervals [] cleared = cleared ≡ []
TellsOf dag intervals (place ∷ places) cleared =
    TellsFirst dag (slice_get intervals place.run) place (TellsOf dag intervals places) cleared

-- this is kept where it is cleared, and the head tells of the places
pub record IsClearedBy (dag : Dag) (intervals : List Interval) (was : Report) (what : ToClear)
    (kept : Ledger) (cleared : Heading) : Type 0 where
  pub kept_is : IsKeptOf dag intervals was what kept
  pub tells : TellsOf dag intervals kept_is.places cleared

-- ---- what is kept of a journal

-- a journal of these bytes tells these tries
pub record HasTries (dag : Dag) (intervals : List Interval) (cleared : Heading) (held : List ℕ)
    (tries : Ledger) : Type 0 where
  pub whole : ℕ
  pub found : IsFoundIn dag intervals (head_text dag intervals cleared) held whole tries

-- ---- reports

-- the text is the report of the backfill that goes on from the tries of a journal, but for failed ones that are made again, and
-- else from those that were kept before
pub record IsJournalReport (before : Ledger) (retry : Bool) (held : List ℕ) (cleared : Heading)
    (may_answer : JobName → Given → Raw
    → Type 0) (dag : Dag) (intervals : List Interval) (text : List ℕ)
    (success : Bool) : Type 0 where
  pub tries : Ledger
  pub has_tries : HasTries dag intervals cleared held tries
  pub reported : IsReportFrom (since
      (left_of retry dag tries) before) may_answer dag intervals text success

-- the bytes say a graph, which has no fault, and the text is the report of its runs in the range, with the programs of its tasks,
-- that goes on from a journal of these bytes
pub record IsJournaledReport (launching : LaunchingOf) (may_hear : Hearing) (graph : List ℕ)
    (file : Option (List ℕ)) (retry : Bool) (held : List ℕ) (range : RunRange) (text : List ℕ)
    (success : Bool) : Type 0 where
  pub draft : Draft
  pub found : List Interval
  pub graph_is : IsGraph graph file draft
  pub listing : HasListing graph file range (Ok found)
  pub clocks : List ℤ
  pub clocks_are : AreClocksOf graph file found clocks
  pub reported : IsJournalReport nothing retry held []
      (MayAnswer (launched_by launching may_hear clocks) (dag_of draft) found)
      (dag_of draft) found text success

-- the text is the report of the backfill that goes on from a journal, and else from what is kept of a report where this is cleared
pub record IsJournaledAfter (may_hear : HearingTries) (answers : Option (List TableEntry))
    (dag : Dag) (intervals : List Interval) (was : Report) (what : ToClear) (retry : Bool)
    (held : List ℕ) (text : List ℕ) (success : Bool) : Type 0 where
  pub kept : Ledger
  pub cleared : Heading
  pub cleared_is : IsClearedBy dag intervals was what kept cleared
  pub reported : IsJournalReport kept retry held cleared
      (MayAnswerBy may_hear answers dag intervals) dag intervals text success

-- the bytes say a graph, which has no fault, a table where there is one, and a report of the graph's runs in the range; and the text
-- is the report of the backfill that goes on from a journal of these bytes, and else from that report where this is cleared
pub record IsJournaledClearReport (launching : LaunchingOf) (may_hear : Hearing) (graph : List ℕ)
    (file table : Option (List ℕ)) (report : List ℕ) (retry : Bool) (held : List ℕ)
    (range : RunRange) (what : ToClear) (text : List ℕ) (success : Bool) : Type 0 where
  pub draft : Draft
  pub answers : Option (List TableEntry)
  pub found : List Interval
  pub was : Report
  pub graph_is : IsGraph graph file draft
  pub table_says : AreAnswersIn table answers
  pub listing : HasListing graph file range (Ok found)
  pub report_says : IsReadAs report was
  pub clocks : List ℤ
  pub clocks_are : AreClocksOf graph file found clocks
  pub reported : IsJournaledAfter (launched_by launching may_hear clocks) answers
      (dag_of draft) found was what retry held text success

-- ---- what goes wrong

-- a worker can't be started; or a try can't be recorded; or so many tries have failed as may; or a try was given up that isn't kept
abbrev pub IsStopRecorded : Option ℕ → Ledger → Option (List ℕ) → Dag → List Interval → StopFault
    → Type 0
IsStopRecorded most kept logs dag intervals StopFault.CannotRecord = Unit {0}
IsStopRecorded most kept logs dag intervals (StopFault.EnoughFailed count) = most ≡ Some count
IsStopRecorded most kept logs dag intervals stop = IsStopOf (IsNew kept) logs dag intervals stop

-- a try can't be recorded; or the backfill that goes on from the journal stops
abbrev pub IsStopSince : Option ℕ → Ledger → Bool → List ℕ → Heading → Option (List ℕ) → Dag
    → List Interval → StopFault → Type 0
IsStopSince most before retry held cleared logs dag intervals StopFault.CannotRecord = Unit {0}
IsStopSince most before retry held cleared logs dag intervals stop =
    (tries : Ledger) × HasTries dag intervals cleared held tries
    × IsStopRecorded most (since (left_of retry dag tries) before) logs dag intervals stop

-- the fault is the first: the journal is refused; or the backfill that goes on from it stops; or memory or the device is wanting
abbrev pub JournalReportFault : Option ℕ → Ledger → Bool → List ℕ → Heading → Option (List ℕ) → Dag
    → List Interval → CommandFault → Type 0
JournalReportFault most before retry held cleared logs dag intervals (BadJournal fault) =
    IsFault dag intervals (head_text dag intervals cleared) held fault
JournalReportFault most before retry held cleared logs dag intervals (Stopped stop) =
    IsStopSince most before retry held cleared logs dag intervals stop
JournalReportFault most before retry held cleared logs dag intervals fault = IsWanting fault

-- the bytes say a graph, which has no fault, its runs lie in the range, and the backfill that goes on from a journal of these bytes has
-- this fault
pub record GoesWrong (most : Option ℕ) (logs : Option (List ℕ)) (graph : List ℕ)
    (file : Option (List ℕ)) (retry : Bool) (held : List ℕ) (range : RunRange)
    (fault : CommandFault) : Type 0 where
  pub draft : Draft
  pub found : List Interval
  pub graph_is : IsGraph graph file draft
  pub listing : HasListing graph file range (Ok found)
  pub fault_is : JournalReportFault most nothing retry held [] logs (dag_of draft) found fault

-- the graph, the table and the range have no fault, the bytes say a report, and this is cleared in it
pub record IsClearable (graph : List ℕ) (file table : Option (List ℕ)) (report : List ℕ)
    (range : RunRange) (what : ToClear) : Type 0 where
  pub ready : IsReady graph file table range
  pub was : Report
  pub report_says : IsReadAs report was
  pub kept : Ledger
  pub cleared : Heading
  pub cleared_is : IsClearedBy ready.dag ready.found was what kept cleared

-- this is cleared in the report that the bytes say, and the backfill that goes on from a journal of these bytes, and else from that report, has this fault
pub record GoesWrongClearing (most : Option ℕ) (logs : Option (List ℕ)) (graph : List ℕ)
    (file table : Option (List ℕ)) (report : List ℕ) (retry : Bool) (held : List ℕ)
    (range : RunRange) (what : ToClear) (fault : CommandFault) : Type 0 where
  pub clearable : IsClearable graph file table report range what
  pub fault_is : JournalReportFault most clearable.kept retry held clearable.cleared logs
      clearable.ready.dag clearable.ready.found fault
