-- What commands come to, by what was read of their files.
use Rattle.std.proofs.Common.{◌≡◌, ℕ, Bool, List, [], Option, Some, None, Ok, option_map, string_bytes, refl, sym, subst, inl, inr}
use Rattle.jiff.specs.declared.timestamp.Timestamp.{Timestamp}
use Rattle.bf_table.specs.Tables.{table_in}
use Rattle.bf_read.specs.declared.draft.Draft.{Draft}
use Rattle.bf_check.specs.Checking.{dag_of}
use Rattle.bf_interval.specs.declared.interval.Interval.{Interval}
use Rattle.bf_kept.specs.Kept.{nothing}
use Rattle.bf_command_line.specs.declared.forms.DryAsked.{DryAsked}
use Rattle.bf_command_line.specs.declared.forms.GraphAsked.{GraphAsked}
use Rattle.bf_command_line.specs.declared.forms.JournalAsked.{JournalAsked}
use Rattle.bf_command_line.specs.declared.forms.ListAsked.{ListAsked}
use Rattle.bf_command_line.specs.declared.forms.RunAsked.{RunAsked}
use Rattle.bf_command_line.specs.declared.forms.SingleAsked.{SingleAsked}
use Rattle.bf_device.specs.declared.sending.Cause.{Cause}
use Rattle.bf_device.specs.declared.sending.Cause.TheVariants as cause
use Rattle.bf_device.specs.declared.sending.WriteFault.{WriteFault}
use Rattle.bf_command_fault.specs.declared.fault.CommandFault.{CommandFault}
use Rattle.bf_command_fault.specs.declared.fault.CommandFault.TheVariants.{BadMoment, Check, OutOfMemory, CannotLaunch, CannotRead, CannotWriteFile, CannotWrite, Journal, JournalInUse, Range, Read, ReportLeft, Stopped}
use Rattle.bf_command_fault.specs.declared.stop.StopFault.{StopFault}
use Rattle.bf_command_fault.specs.declared.status.Status.{Status}
use Rattle.bf_command_fault.specs.Refusal.{of_cause, of_write}
use Rattle.bf_command_fault.specs.Status.{of_runs}
use Rattle.bf_planning.specs.declared.check.GraphSize.{GraphSize}
use Rattle.bf_planning.specs.declared.range.RunRange.{RunRange}
use Rattle.bf_commands.specs.DatedRuns.{DryFault, IsDryReport}
use Rattle.bf_commands.specs.OverTable.{is_single_threaded_in}
use Rattle.bf_planning.specs.Graphs.{IsFaultIn, IsGraph, IsSizeOf}
use Rattle.bf_commands.specs.Journaled.{GoesWrong, JournalReportFault}
use Rattle.bf_planning.specs.Lists.{HasListing, ListFault, IsListIn}
use Rattle.bf_commands.specs.OneRun.{SingleFault, IsSingleReport}
use Rattle.bf_process.specs.Words.{LaunchingOf}
use Rattle.bf_commands.specs.Programs.{Hearing, Losing, RunFault, IsRunReport}
use Rattle.bf_disk.specs.Files.{AreReadable, Files, IsFirstUntold}
use Rattle.bf_input.specs.Inputs.{OfFiles, OfFilesAndTable, graph_paths, table_paths, AreAlike}
use Rattle.bf_input.specs.Moments.{Means}
use Rattle.bf_backfills.specs.Commands.{IsCheckAnswer, IsDryAnswer, IsLaunchable, IsListAnswer, IsRunAnswer, IsRunReportBy, IsSingleAnswer, Machine, MeansRange, OfJournal, launching_asked_of, size_text}
use Rattle.bf_backfills.specs.CommandFaults.{IsCheckFault, IsDryFault, IsListFault, HasRuns, IsRecordedRunFault, IsRunFault, IsRunFaultBy, IsSingleFault}
use Rattle.bf_backfills.specs.inner.CommandFaults.{IsFaultOfLauncher}
use Rattle.bf_backfills.specs.inner.Journals.{IsFaultOfJournaledBackfill, IsFaultOfReadRun, IsFaultOfRecordedRun}
use Rattle.bf_backfills.proofs.Alike.{dry_fault, fault_in, graph_of, journaled_report, list_fault, list_of, listing_of, report_at, report_in, run_fault, run_report, single_fault, size_of}

-- ---- what was read

-- the graph file and the zone file can be read, and these bytes say what they hold
pub record AreGraphBytes (files : Files) (asked : GraphAsked) (graph : List ℕ) (zone : Option (List ℕ)) : Type 0 where
  pub readable : AreReadable files (graph_paths asked)
  pub alike : OfFiles files asked (λ held zone_held. AreAlike graph held zone zone_held)

-- so it is with the table behind them
pub record AreBytesWithTable (files : Files) (asked : GraphAsked) (path graph table : List ℕ) (zone : Option (List ℕ)) : Type 0 where
  pub readable : AreReadable files (table_paths asked path)
  pub alike : OfFilesAndTable files asked path (λ held zone_held other. AreAlike graph held zone zone_held × (table_in table ≡ table_in other))

-- what was lent is what was read
pub lent_graph : {files : Files} {asked : GraphAsked} {lent read : List ℕ} {lent_zone zone : Option (List ℕ)} → lent ≡ read → lent_zone ≡ zone → AreReadable files (graph_paths asked)
    → OfFiles files asked (λ graph held. AreAlike read graph zone held) → AreGraphBytes files asked lent lent_zone
lent_graph same same_zone readable alike = rw (same, same_zone) (record { readable = readable; alike = alike })

-- so it is with what was read itself
pub read_graph : {files : Files} {asked : GraphAsked} {read : List ℕ} {zone : Option (List ℕ)} → AreReadable files (graph_paths asked) → OfFiles files asked (λ graph held. AreAlike read graph zone held) → AreGraphBytes files asked read zone
read_graph readable alike = record { readable = readable; alike = alike }

pub lent_with_table : {files : Files} {asked : GraphAsked} {path lent read lent_table table : List ℕ} {lent_zone zone : Option (List ℕ)} → lent ≡ read → lent_table ≡ table → lent_zone ≡ zone → AreReadable files (table_paths asked path)
    → OfFilesAndTable files asked path (λ graph held other. AreAlike read graph zone held × (table_in table ≡ table_in other)) → AreBytesWithTable files asked path lent lent_table lent_zone
lent_with_table same same_table same_zone readable alike = rw (same, same_table, same_zone) (record { readable = readable; alike = alike })

-- ---- `check`

module _ {files : Files} {asked : GraphAsked} {read : List ℕ} {zone : Option (List ℕ)} (bytes : AreGraphBytes files asked read zone) where
  pub check_answer : (size : GraphSize) (text : List ℕ) → IsSizeOf read zone size → text ≡ size_text size → IsCheckAnswer files asked text Status.Success
  check_answer size text is same = record {
    success = refl;
    readable = bytes.readable;
    text_is = λ graph held are. (size, (size_of read graph zone held (bytes.alike graph held are) size is, same));
  }

  pub check_files : (fault : CommandFault) → IsFaultIn read zone fault → IsCheckFault files asked fault
  check_files BadMoment is = absurd is
  check_files OutOfMemory is = tt
  check_files (CannotRead path) is = absurd is
  check_files (CannotWriteFile path) is = absurd is
  check_files (ReportLeft path left) is = absurd is
  check_files (CannotWrite n) is = absurd is
  check_files fault is = (bytes.readable, λ graph held are. fault_in read graph zone held (bytes.alike graph held are) fault is)

  written_by : (c : Cause) (n : ℕ) → IsCheckFault files asked (of_cause c n)
  written_by cause.Io n = bytes.readable
  written_by cause.OutOfMemory n = tt

  pub check_write : (fault : WriteFault) → IsCheckFault files asked (of_write fault)
  check_write fault = written_by fault.cause fault.sent

-- ---- `list`

module _ {files : Files} (asked : ListAsked) (range : RunRange) (means : MeansRange asked.range range) {read : List ℕ} {zone : Option (List ℕ)} (bytes : AreGraphBytes files asked.graph read zone) where
  pub list_answer : (text : List ℕ) → IsListIn read zone range text → IsListAnswer files asked text Status.Success
  list_answer text is = record {
    success = refl;
    range = range;
    means = means;
    readable = bytes.readable;
    text_is = λ graph held are. list_of read graph zone held (bytes.alike graph held are) range text is;
  }

  pub list_files : (fault : CommandFault) → ListFault read zone range fault → IsListFault files asked fault
  list_files BadMoment is = absurd is
  list_files OutOfMemory is = (range, means, tt)
  list_files (CannotRead path) is = absurd is
  list_files (CannotWriteFile path) is = absurd is
  list_files (ReportLeft path left) is = absurd is
  list_files fault is = (range, means, (bytes.readable, λ graph held are. list_fault read graph zone held (bytes.alike graph held are) range fault is))

-- ---- `single`

module _ {files : Files} (asked : SingleAsked) (at : Timestamp) (means : Means (string_bytes asked.at) at) {read table : List ℕ} {zone : Option (List ℕ)}
    (bytes : AreBytesWithTable files asked.graph (string_bytes asked.table) read table zone) where
  pub single_answer : (text : List ℕ) (success : Bool) → IsSingleReport read zone table at text success → IsSingleAnswer files asked text (of_runs success)
  single_answer text success is = record {
    at = at;
    means = means;
    succeeded = success;
    status_is = refl;
    readable = bytes.readable;
    text_is = λ graph other held are holds. (let same = bytes.alike graph other held are holds in report_at read graph zone held same.0 table other same.1 at text success is);
  }

  pub single_files : (fault : CommandFault) → SingleFault read zone table at fault → IsSingleFault files asked fault
  single_files BadMoment is = absurd is
  single_files OutOfMemory is = (at, means, tt)
  single_files (CannotRead path) is = absurd is
  single_files (CannotWriteFile path) is = absurd is
  single_files (ReportLeft path left) is = absurd is
  single_files fault is = (at, means, (bytes.readable, λ graph other held are holds. (let same = bytes.alike graph other held are holds in single_fault read graph zone held same.0 table other same.1 at fault is)))

-- ---- `dry`

module _ {files : Files} (asked : DryAsked) (range : RunRange) (means : MeansRange asked.range range) {read table : List ℕ} {zone : Option (List ℕ)}
    (bytes : AreBytesWithTable files asked.graph (string_bytes asked.table) read table zone) where
  pub dry_answer : (text : List ℕ) (success : Bool) → IsDryReport read zone table range text success → IsDryAnswer files asked text (of_runs success)
  dry_answer text success is = record {
    range = range;
    means = means;
    succeeded = success;
    status_is = refl;
    readable = bytes.readable;
    text_is = λ graph other held are holds. (let same = bytes.alike graph other held are holds in report_in read graph zone held same.0 table other same.1 range text success is);
  }

  pub dry_files : (fault : CommandFault) → DryFault (is_single_threaded_in asked.progress) read zone table range fault → IsDryFault files asked fault
  dry_files BadMoment is = absurd is
  dry_files OutOfMemory is = (range, means, tt)
  dry_files (CannotRead path) is = absurd is
  dry_files (CannotWriteFile path) is = absurd is
  dry_files (ReportLeft path left) is = absurd is
  dry_files fault is = (range, means, (bytes.readable, λ graph other held are holds. (let same = bytes.alike graph other held are holds in dry_fault read graph zone held same.0 table other same.1 (is_single_threaded_in asked.progress) range fault is)))

-- ---- `run`

-- memory is wanting, or a file can't be read, whether a journal is named or not
module _ (may_lose : Losing) (files : Files) (machine : Machine) (asked : RunAsked) (range : RunRange) (means : MeansRange asked.range range) where
  pub run_memory : IsRunFault may_lose files machine asked OutOfMemory
  run_memory = (range, means, go asked.journal)
    where
      go : (o : Option JournalAsked) → IsRunFaultBy (launching_asked_of asked.launcher asked.logs) may_lose files machine.journals asked.graph o range OutOfMemory
      go None = tt
      go (Some journal) = tt

  -- or the launcher can't be started
  pub run_unlaunched : (fault : CommandFault) → IsFaultOfLauncher machine.startable (option_map string_bytes asked.launcher) fault → IsRunFault may_lose files machine asked fault
  run_unlaunched (CannotLaunch path) is = is
  run_unlaunched OutOfMemory is = run_memory
  run_unlaunched fault is = absurd is

  pub run_unread : (path : List ℕ) → IsFirstUntold files (graph_paths asked.graph) path → IsRunFault may_lose files machine asked (CannotRead path)
  run_unread path unread = (range, means, go asked.journal)
    where
      go : (o : Option JournalAsked) → IsRunFaultBy (launching_asked_of asked.launcher asked.logs) may_lose files machine.journals asked.graph o range (CannotRead path)
      go None = unread
      go (Some journal) = inl unread

module _ {files : Files} (machine : Machine) (asked : RunAsked) (range : RunRange) (means : MeansRange asked.range range) (launchable : IsLaunchable machine.startable (option_map string_bytes asked.launcher)) {read : List ℕ} {zone : Option (List ℕ)} (bytes : AreGraphBytes files asked.graph read zone) where
  -- where no journal is named
  module _ (none : asked.journal ≡ None) where
    run_answer : (may_hear : Hearing) (text : List ℕ) (success : Bool) → IsRunReport (launching_asked_of asked.launcher asked.logs) may_hear read zone range text success
        → IsRunAnswer may_hear files machine asked text (of_runs success)
    run_answer may_hear text success is = record {
      range = range;
      means = means;
      succeeded = success;
      status_is = refl;
      launchable = launchable;
      readable = bytes.readable;
      text_is = λ graph held are. subst (λ (o : Option JournalAsked). IsRunReportBy (launching_asked_of asked.launcher asked.logs) may_hear machine.journals o range graph held text success) (sym none)
          (run_report read graph zone held (bytes.alike graph held are) (launching_asked_of asked.launcher asked.logs) may_hear range text success is);
    }

    by_files : (may_lose : Losing) (fault : CommandFault) → RunFault (launching_asked_of asked.launcher asked.logs) may_lose read zone range fault → IsRunFaultBy (launching_asked_of asked.launcher asked.logs) may_lose files machine.journals asked.graph None range fault
    by_files may_lose BadMoment is = absurd is
    by_files may_lose OutOfMemory is = tt
    by_files may_lose (CannotRead path) is = absurd is
    by_files may_lose (CannotWriteFile path) is = absurd is
    by_files may_lose (ReportLeft path left) is = absurd is
    by_files may_lose fault is = (bytes.readable, λ graph held are. run_fault read graph zone held (bytes.alike graph held are) (launching_asked_of asked.launcher asked.logs) may_lose range fault is)

    as_run : (may_lose : Losing) (fault : CommandFault) → IsRunFaultBy (launching_asked_of asked.launcher asked.logs) may_lose files machine.journals asked.graph None range fault → IsRunFaultBy (launching_asked_of asked.launcher asked.logs) may_lose files machine.journals asked.graph asked.journal range fault
    as_run may_lose fault is = subst (λ (o : Option JournalAsked). IsRunFaultBy (launching_asked_of asked.launcher asked.logs) may_lose files machine.journals asked.graph o range fault) (sym none) is

    run_files : (may_lose : Losing) (fault : CommandFault) → RunFault (launching_asked_of asked.launcher asked.logs) may_lose read zone range fault → IsRunFault may_lose files machine asked fault
    run_files may_lose BadMoment is = absurd is
    run_files may_lose (CannotLaunch path) is = absurd is
    run_files may_lose fault is = (range, means, as_run may_lose fault (by_files may_lose fault is))

  -- where one is
  module _ (journal : JournalAsked) (named : asked.journal ≡ Some journal) where
    recorded_answer : (may_hear : Hearing) (text : List ℕ) (success : Bool) → IsRunReportBy (launching_asked_of asked.launcher asked.logs) may_hear machine.journals (Some journal) range read zone text success
        → IsRunAnswer may_hear files machine asked text (of_runs success)
    recorded_answer may_hear text success is = record {
      range = range;
      means = means;
      succeeded = success;
      status_is = refl;
      launchable = launchable;
      readable = bytes.readable;
      text_is = λ graph held are. subst (λ (o : Option JournalAsked). IsRunReportBy (launching_asked_of asked.launcher asked.logs) may_hear machine.journals o range graph held text success) (sym named)
          (λ holds told. journaled_report read graph zone held (bytes.alike graph held are) (launching_asked_of asked.launcher asked.logs) may_hear journal.retry_failed holds range text success (is holds told));
    }

    has_runs : (found : List Interval) → HasListing read zone range (Ok found) → OfFiles files asked.graph (HasRuns range)
    has_runs found listing graph held are = (found, listing_of read graph zone held (bytes.alike graph held are) range _ listing)

    goes_wrong : (fault : CommandFault) (draft : Draft) (found : List Interval) → IsGraph read zone draft → HasListing read zone range (Ok found)
        → OfJournal machine.journals journal (λ holds. JournalReportFault journal.stop_after nothing journal.retry_failed holds [] (option_map string_bytes asked.logs) (dag_of draft) found fault)
        → OfFiles files asked.graph (λ graph held. OfJournal machine.journals journal (λ holds. GoesWrong journal.stop_after (option_map string_bytes asked.logs) graph held journal.retry_failed holds range fault))
    goes_wrong fault draft found graph_is listing wrong graph held are holds told = record {
      draft = draft;
      found = found;
      graph_is = graph_of read graph zone held (bytes.alike graph held are) draft graph_is;
      listing = listing_of read graph zone held (bytes.alike graph held are) range _ listing;
      fault_is = wrong holds told;
    }

    over_journal : (fault : CommandFault) (draft : Draft) (found : List Interval) → IsGraph read zone draft → HasListing read zone range (Ok found)
        → IsFaultOfJournaledBackfill machine.journals journal nothing [] (option_map string_bytes asked.logs) (dag_of draft) found fault → IsRecordedRunFault (option_map string_bytes asked.logs) files machine.journals asked.graph journal range fault
    over_journal (CannotRead path) draft found graph_is listing is = inr (bytes.readable, is.0, is.1, has_runs found listing)
    over_journal JournalInUse draft found graph_is listing is = (bytes.readable, is, has_runs found listing)
    over_journal (CannotWriteFile path) draft found graph_is listing is = (bytes.readable, is, has_runs found listing)
    over_journal (Journal fault) draft found graph_is listing is = (bytes.readable, goes_wrong (Journal fault) draft found graph_is listing is)
    over_journal (Stopped StopFault.CannotRecord) draft found graph_is listing is = absurd is
    over_journal (Stopped stop) draft found graph_is listing is = (bytes.readable, goes_wrong (Stopped stop) draft found graph_is listing is)
    over_journal OutOfMemory draft found graph_is listing is = tt
    over_journal (CannotWrite n) draft found graph_is listing is = (bytes.readable, λ graph held are. tt)
    over_journal fault draft found graph_is listing is = absurd is

    before_journal : (fault : CommandFault) → ListFault read zone range fault → IsRecordedRunFault (option_map string_bytes asked.logs) files machine.journals asked.graph journal range fault
    before_journal (Read fault) is = (bytes.readable, λ graph held are. list_fault read graph zone held (bytes.alike graph held are) range (Read fault) is)
    before_journal (Check fault) is = (bytes.readable, λ graph held are. list_fault read graph zone held (bytes.alike graph held are) range (Check fault) is)
    before_journal (Range fault) is = (bytes.readable, λ graph held are. list_fault read graph zone held (bytes.alike graph held are) range (Range fault) is)
    before_journal (CannotWrite n) is = (bytes.readable, λ graph held are. tt)
    before_journal OutOfMemory is = tt
    before_journal fault is = absurd is

    recorded : (fault : CommandFault) → IsFaultOfRecordedRun (option_map string_bytes asked.logs) machine.journals journal range read zone fault → IsRecordedRunFault (option_map string_bytes asked.logs) files machine.journals asked.graph journal range fault
    recorded fault (inl is) = before_journal fault is
    recorded fault (inr (draft, found, graph_is, listing, is)) = over_journal fault draft found graph_is listing is

    no_moment : IsFaultOfRecordedRun (option_map string_bytes asked.logs) machine.journals journal range read zone BadMoment → ⊥
    no_moment (inl is) = is
    no_moment (inr is) = is.4

    no_launcher : (path : List ℕ) → IsFaultOfRecordedRun (option_map string_bytes asked.logs) machine.journals journal range read zone (CannotLaunch path) → ⊥
    no_launcher path (inl is) = is
    no_launcher path (inr is) = is.4

    as_recorded : (may_lose : Losing) (fault : CommandFault) → IsRecordedRunFault (option_map string_bytes asked.logs) files machine.journals asked.graph journal range fault → IsRunFaultBy (launching_asked_of asked.launcher asked.logs) may_lose files machine.journals asked.graph asked.journal range fault
    as_recorded may_lose fault is = subst (λ (o : Option JournalAsked). IsRunFaultBy (launching_asked_of asked.launcher asked.logs) may_lose files machine.journals asked.graph o range fault) (sym named) is

    recorded_files : (may_lose : Losing) (fault : CommandFault) → IsFaultOfRecordedRun (option_map string_bytes asked.logs) machine.journals journal range read zone fault → IsRunFault may_lose files machine asked fault
    recorded_files may_lose BadMoment is = absurd (no_moment is)
    recorded_files may_lose (CannotLaunch path) is = absurd (no_launcher path is)
    recorded_files may_lose fault is = (range, means, as_recorded may_lose fault (recorded fault is))

  -- whether one is named or not
  pub run_answer_by : (launching : LaunchingOf) → launching ≡ launching_asked_of asked.launcher asked.logs → (may_hear : Hearing) (text : List ℕ) (success : Bool)
      → IsRunReportBy launching may_hear machine.journals asked.journal range read zone text success → IsRunAnswer may_hear files machine asked text (of_runs success)
  run_answer_by launching same may_hear text success is =
      go asked.journal refl (subst (λ (l : LaunchingOf). IsRunReportBy l may_hear machine.journals asked.journal range read zone text success) same is)
    where
      go : (o : Option JournalAsked) → asked.journal ≡ o → IsRunReportBy (launching_asked_of asked.launcher asked.logs) may_hear machine.journals o range read zone text success → IsRunAnswer may_hear files machine asked text (of_runs success)
      go None none is = run_answer none may_hear text success is
      go (Some journal) named is = recorded_answer journal named may_hear text success is

  pub run_files_by : (launching : LaunchingOf) → launching ≡ launching_asked_of asked.launcher asked.logs → (may_lose : Losing) (fault : CommandFault)
      → IsFaultOfReadRun launching may_lose machine.journals asked.journal range read zone fault → IsRunFault may_lose files machine asked fault
  run_files_by launching same may_lose fault is =
      go asked.journal refl (subst (λ (l : LaunchingOf). IsFaultOfReadRun l may_lose machine.journals asked.journal range read zone fault) same is)
    where
      go : (o : Option JournalAsked) → asked.journal ≡ o → IsFaultOfReadRun (launching_asked_of asked.launcher asked.logs) may_lose machine.journals o range read zone fault → IsRunFault may_lose files machine asked fault
      go None none is = run_files none may_lose fault is
      go (Some journal) named is = recorded_files journal named may_lose fault is
