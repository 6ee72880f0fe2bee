-- What is given of a journal that is opened, and what is told of it.
use Rattle.std.specs.Prelude.{◌≡◌, ◌⊎◌, ℕ, Bool, List, [], Option, Some, None, Ok, string_bytes}
use Rattle.bf_value.specs.declared.name.JobName.{JobName}
use Rattle.bf_plan.specs.declared.plan.Dag.{Dag}
use Rattle.bf_read.specs.declared.draft.Draft.{Draft}
use Rattle.bf_check.specs.Checking.{dag_of}
use Rattle.bf_interval.specs.declared.interval.Interval.{Interval}
use Rattle.bf_xcom.specs.declared.values.Given.{Given}
use Rattle.bf_try.specs.declared.answers.Raw.{Raw}
use Rattle.bf_try.specs.Tries.{Ledger}
use Rattle.bf_kept.specs.Kept.{nothing}
use Rattle.bf_journal.specs.Found.{IsOfAnother}
use Rattle.bf_journal.specs.declared.fault.JournalFault.{JournalFault}
use Rattle.bf_table.specs.declared.table.TableEntry.{TableEntry}
use Rattle.bf_commands.specs.declared.cleared.ToClear.{ToClear}
use Rattle.bf_report.specs.declared.report.Report.{Report}
use Rattle.bf_command_line.specs.declared.forms.JournalAsked.{JournalAsked}
use Rattle.bf_command_fault.specs.declared.fault.CommandFault.{CommandFault}
use Rattle.bf_command_fault.specs.declared.fault.CommandFault.TheVariants.{CannotRead, CannotWriteFile, Journal as BadJournal, JournalInUse, OutOfMemory, Stopped}
use Rattle.bf_command_fault.specs.declared.stop.StopFault.{StopFault}
use Rattle.bf_planning.specs.declared.range.RunRange.{RunRange}
use Rattle.bf_commands.specs.Cleared.{ClearingFault, IsReportAfter, IsUncleared}
use Rattle.bf_planning.specs.Graphs.{IsGraph}
use Rattle.bf_commands.specs.Journaled.{Heading, IsClearedBy, JournalReportFault, IsJournaledAfter, IsJournalReport}
use Rattle.bf_planning.specs.Lists.{HasListing, ListFault}
use Rattle.bf_planning.specs.Wanting.{IsWanting}
use Rattle.bf_process.specs.Words.{LaunchingOf}
use Rattle.bf_commands.specs.Programs.{HearingTries, RunFault, Losing}
use Rattle.bf_disk.specs.Files.{Files}
use Rattle.bf_backfills.specs.Commands.{IsUnopened, OfJournal}
use Rattle.bf_disk.specs.declared.journals.OpenFault.{OpenFault}

-- why there is no answer where a path's journal isn't open
abbrev pub of_open : List ℕ → OpenFault → CommandFault
of_open path OpenFault.CannotRead = CannotRead path
of_open path OpenFault.InUse = JournalInUse
of_open path OpenFault.OfAnother = BadJournal JournalFault.Mismatch
of_open path OpenFault.OutOfMemory = OutOfMemory

-- a journal that is asked for can't be opened: no bytes are told of it; or it has another head than this; or memory is wanting
abbrev pub IsFaultOfOpening : Files → JournalAsked → List ℕ → CommandFault → Type 0
IsFaultOfOpening journals asked head (CannotRead path) =
    (path ≡ string_bytes asked.path) × IsUnopened journals asked
IsFaultOfOpening journals asked head JournalInUse = IsUnopened journals asked
IsFaultOfOpening journals asked head (BadJournal JournalFault.Mismatch) =
    OfJournal journals asked (IsOfAnother head)
IsFaultOfOpening journals asked head OutOfMemory = Unit {0}
IsFaultOfOpening journals asked head fault = ⊥

-- where a backfill ends with this fault that records its tries in the path's journal
abbrev pub journaled_fault : List ℕ → CommandFault → CommandFault
journaled_fault path (Stopped StopFault.CannotRecord) = CannotWriteFile path
journaled_fault path fault = fault

-- a journal that is asked for can't be opened or written; or the backfill that goes on from what it is told to hold has this fault
abbrev pub IsFaultOfJournaledBackfill : Files → JournalAsked → Ledger → Heading → Option (List ℕ)
    → Dag → List Interval → CommandFault → Type 0
IsFaultOfJournaledBackfill journals asked before cleared logs dag found (CannotRead path) =
    (path ≡ string_bytes asked.path) × IsUnopened journals asked
IsFaultOfJournaledBackfill journals asked before cleared logs dag found JournalInUse =
    IsUnopened journals asked
IsFaultOfJournaledBackfill journals asked before cleared logs dag found (CannotWriteFile path) =
    path ≡ string_bytes asked.path
IsFaultOfJournaledBackfill journals asked before cleared logs dag found (BadJournal fault) =
    OfJournal journals asked (λ held. JournalReportFault asked.stop_after before asked.retry_failed
    held cleared logs dag found (BadJournal fault))
IsFaultOfJournaledBackfill journals asked before cleared logs dag found (Stopped
    StopFault.CannotRecord) = ⊥
IsFaultOfJournaledBackfill journals asked before cleared logs dag found (Stopped stop) =
    OfJournal journals asked (λ held. JournalReportFault asked.stop_after before asked.retry_failed
    held cleared logs dag found (Stopped stop))
IsFaultOfJournaledBackfill journals asked before cleared logs dag found fault = IsWanting fault

-- the report of the backfill that goes on from what the journal is told to hold
abbrev pub IsReportOver : Files → JournalAsked → Ledger → Heading → (JobName → Given → Raw → Type 0)
    → Dag → List Interval → List ℕ → Bool → Type 0
IsReportOver journals asked before cleared may_answer dag found text success =
    OfJournal journals asked (λ held. IsJournalReport before asked.retry_failed held cleared
    may_answer dag found text success)

-- ---- of `run`

-- the first fault of these bytes; or they have none, and it is that of the journal or of the backfill that goes on from it
abbrev pub IsFaultOfRecordedRun : Option (List ℕ) → Files → JournalAsked → RunRange → List ℕ
    → Option (List ℕ) → CommandFault → Type 0
IsFaultOfRecordedRun logs journals asked range graph zone fault = ListFault graph zone range fault
    ⊎ ((draft : Draft) × (found : List Interval) × IsGraph graph zone draft
    × HasListing graph zone range (Ok found)
    × IsFaultOfJournaledBackfill journals asked nothing [] logs (dag_of draft) found fault)

-- the first fault of these bytes and of the backfill; with a journal, that of the recorded one
abbrev pub IsFaultOfReadRun : LaunchingOf → Losing → Files → Option JournalAsked → RunRange
    → List ℕ → Option (List ℕ) → CommandFault → Type 0
IsFaultOfReadRun launching may_lose journals None range graph zone fault =
    RunFault launching may_lose graph zone range fault
IsFaultOfReadRun launching may_lose journals (Some asked) range graph zone fault =
    IsFaultOfRecordedRun launching.logs journals asked range graph zone fault

-- ---- of `clear`

-- what is kept of a report where this is cleared, and the backfill that goes on from a journal and from that has this fault
pub record GoesWrongAfter (logs : Option (List ℕ)) (journals : Files) (dag : Dag)
    (found : List Interval) (was : Report) (what : ToClear) (asked : JournalAsked)
    (fault : CommandFault) : Type 0 where
  pub kept : Ledger
  pub cleared : Heading
  pub cleared_is : IsClearedBy dag found was what kept cleared
  pub fault_is : IsFaultOfJournaledBackfill journals asked kept cleared logs dag found fault

-- the fault of what is cleared, or else of the backfill that goes on
abbrev pub IsFaultSince : Option (List ℕ) → Files → Dag → List Interval → Report → ToClear
    → JournalAsked → CommandFault → Type 0
IsFaultSince logs journals dag found was what asked fault = IsUncleared dag found was what fault
    ⊎ GoesWrongAfter logs journals dag found was what asked fault

-- the report of the backfill that goes on from a report where this is cleared; where a journal is named, from that first
abbrev pub IsReportAfterBy : HearingTries → Files → Option JournalAsked → Option (List TableEntry)
    → Dag → List Interval → Report → ToClear → List ℕ → Bool → Type 0
IsReportAfterBy may_hear journals None answers dag found was what text success =
    IsReportAfter may_hear answers dag found was what text success
IsReportAfterBy may_hear journals (Some asked) answers dag found was what text success =
    OfJournal journals asked (λ held. IsJournaledAfter may_hear answers dag found was what
    asked.retry_failed held text success)

-- the fault of the backfill that goes on from a report where this is cleared; where a journal is named, from that first
abbrev pub IsFaultAfterBy : Bool → LaunchingOf → Losing → Files → Option JournalAsked
    → Option (List TableEntry) → Dag → List Interval → Report → ToClear → CommandFault → Type 0
IsFaultAfterBy alone launching may_lose journals None answers dag found was what fault =
    ClearingFault alone launching may_lose answers dag found was what fault
IsFaultAfterBy alone launching may_lose journals (Some asked) answers dag found was what fault =
    IsFaultSince launching.logs journals dag found was what asked fault
