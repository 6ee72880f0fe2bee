-- Why a command over graphs comes to no answer, by what the files hold that it names, and what is told of that.
use Rattle.std.specs.Prelude.{◌≡◌, ◌⊎◌, ℕ, List, Option, Some, None, option_map, string_bytes, Ok}
use Rattle.jiff.specs.declared.timestamp.Timestamp.{Timestamp}
use Rattle.bf_command_line.specs.declared.forms.ClearAsked.{ClearAsked}
use Rattle.bf_command_line.specs.declared.forms.ClearPlanAsked.{ClearPlanAsked}
use Rattle.bf_command_line.specs.declared.forms.DryAsked.{DryAsked}
use Rattle.bf_command_line.specs.declared.forms.GraphAsked.{GraphAsked}
use Rattle.bf_command_line.specs.declared.forms.JournalAsked.{JournalAsked}
use Rattle.bf_command_line.specs.declared.forms.ListAsked.{ListAsked}
use Rattle.bf_command_line.specs.declared.forms.RunAsked.{RunAsked}
use Rattle.bf_command_line.specs.declared.forms.SingleAsked.{SingleAsked}
use Rattle.bf_commands.specs.declared.cleared.ToClear.{ToClear}
use Rattle.bf_interval.specs.declared.interval.Interval.{Interval}
use Rattle.bf_report_reader.specs.Faults.{Tells as TellsFault}
use Rattle.bf_report_reader.specs.declared.fault.ReportFault.{ReportFault}
use Rattle.bf_command_fault.specs.declared.fault.CommandFault.{CommandFault}
use Rattle.bf_command_fault.specs.declared.fault.CommandFault.TheVariants.{BadMoment, Check as NotSound, Clear as NotCleared, OutOfMemory, CannotLaunch, CannotRead, CannotWriteFile, CannotWrite, Journal as BadJournal, JournalInUse, ReportLeft, Range as BadRange, Read as NotRead, Report as BadReport, Seeds as BadSeeds, Stopped, Table as BadTable}
use Rattle.bf_command_fault.specs.declared.stop.StopFault.{StopFault}
use Rattle.bf_planning.specs.declared.range.RunRange.{RunRange}
use Rattle.bf_commands.specs.Cleared.{IsFaultBefore, IsReady, IsUnclearable, StopsClearing}
use Rattle.bf_commands.specs.DatedRuns.{DryFault}
use Rattle.bf_planning.specs.Graphs.{IsFaultIn}
use Rattle.bf_commands.specs.Journaled.{GoesWrong, GoesWrongClearing, IsClearable}
use Rattle.bf_planning.specs.Lists.{HasListing, ListFault}
use Rattle.bf_commands.specs.OneRun.{SingleFault}
use Rattle.bf_commands.specs.OverTable.{is_single_threaded_in}
use Rattle.bf_process.specs.Words.{LaunchingOf}
use Rattle.bf_commands.specs.Programs.{Losing, RunFault}
use Rattle.bf_disk.specs.Files.{Files, IsReadable, IsUntold, AreReadable, IsFirstUntold}
use Rattle.bf_input.specs.Inputs.{OfFiles, OfFilesAndTable, OfFilesAndNamedTable, graph_paths, table_paths}
use Rattle.bf_input.specs.Moments.{Means, IsNoMoment}
use Rattle.bf_backfills.specs.Commands.{OfJournal, IsUnopened, Machine, IsUnlaunchable, launcher_used_of, launching_asked_of, MeansCleared, MeansRange, HasNoMoment, IsNoStarts, ClearInput, clear_input, plan_input, first_paths, OfClearFiles}

-- ---- why there is no answer

-- a file can't be read, the first of those that are read in this order; or else they can be read, and have this fault; or memory is wanting
abbrev pub IsFaultOfFiles : Files → List (List ℕ) → Type 0 → CommandFault → Type 0
IsFaultOfFiles files paths Has (CannotRead path) = IsFirstUntold files paths path
IsFaultOfFiles files paths Has OutOfMemory = Unit {0}
IsFaultOfFiles files paths Has BadMoment = ⊥
IsFaultOfFiles files paths Has (CannotWriteFile path) = ⊥
IsFaultOfFiles files paths Has (ReportLeft path left) = ⊥
IsFaultOfFiles files paths Has fault = AreReadable files paths × Has

-- the first fault of the files and of the graph
abbrev pub IsCheckFault : Files → GraphAsked → CommandFault → Type 0
IsCheckFault files asked (CannotWrite n) = AreReadable files (graph_paths asked)
IsCheckFault files asked fault =
    IsFaultOfFiles files (graph_paths asked)
    (OfFiles files asked (λ graph zone. IsFaultIn graph zone fault)) fault

-- moments come first: a text is no moment, or no days; or they mean a range, and the fault is the first of the files, the graph and the range
abbrev pub IsListFault : Files → ListAsked → CommandFault → Type 0
IsListFault files asked BadMoment = IsNoStarts asked.range.starts
IsListFault files asked fault =
    (range : RunRange) × MeansRange asked.range range
    × IsFaultOfFiles files (graph_paths asked.graph)
    (OfFiles files asked.graph (λ graph zone. ListFault graph zone range fault)) fault

-- the moment comes first: the text is none; or it means one, and the fault is the first of the files, the graph, the table and the moment
abbrev pub IsSingleFault : Files → SingleAsked → CommandFault → Type 0
IsSingleFault files asked BadMoment = IsNoMoment (string_bytes asked.at)
IsSingleFault files asked fault =
    (at : Timestamp) × Means (string_bytes asked.at) at
    × IsFaultOfFiles files (table_paths asked.graph (string_bytes asked.table))
    (OfFilesAndTable files asked.graph (string_bytes asked.table)
    (λ graph zone table. SingleFault graph zone table at fault)) fault

-- moments come first: a text is no moment, or no days; or they mean a range, and the fault is the first of the files, the graph, the table and the range
abbrev pub IsDryFault : Files → DryAsked → CommandFault → Type 0
IsDryFault files asked BadMoment = IsNoStarts asked.range.starts
IsDryFault files asked fault =
    (range : RunRange) × MeansRange asked.range range
    × IsFaultOfFiles files (table_paths asked.graph (string_bytes asked.table))
    (OfFilesAndTable files asked.graph (string_bytes asked.table) (λ graph zone table.
    DryFault (is_single_threaded_in asked.progress) graph zone table range fault)) fault

-- runs lie in the range
abbrev pub HasRuns : RunRange → List ℕ → Option (List ℕ) → Type 0
HasRuns range graph zone = (found : List Interval) × HasListing graph zone range (Ok found)

-- the fault is the first of the files, the graph and the range; or runs lie in it, and the journal can't be opened, or is refused, or
-- can't be written, or else it is what stops the backfill that goes on from the journal
abbrev pub IsRecordedRunFault : Option (List ℕ) → Files → Files → GraphAsked → JournalAsked
    → RunRange → CommandFault → Type 0
IsRecordedRunFault logs files journals graph asked range (CannotRead path) =
    IsFirstUntold files (graph_paths graph) path
    ⊎ (AreReadable files (graph_paths graph) × (path ≡ string_bytes asked.path)
    × IsUnopened journals asked × OfFiles files graph (HasRuns range))
IsRecordedRunFault logs files journals graph asked range JournalInUse =
    AreReadable files (graph_paths graph) × IsUnopened journals asked
    × OfFiles files graph (HasRuns range)
IsRecordedRunFault logs files journals graph asked range (CannotWriteFile path) =
    AreReadable files (graph_paths graph) × (path ≡ string_bytes asked.path)
    × OfFiles files graph (HasRuns range)
IsRecordedRunFault logs files journals graph asked range (BadJournal fault) =
    AreReadable files (graph_paths graph)
    × OfFiles files graph (λ bytes zone. OfJournal journals asked (λ held.
    GoesWrong asked.stop_after logs bytes zone asked.retry_failed held range (BadJournal fault)))
IsRecordedRunFault logs files journals graph asked range (Stopped StopFault.CannotRecord) = ⊥
IsRecordedRunFault logs files journals graph asked range (Stopped stop) =
    AreReadable files (graph_paths graph)
    × OfFiles files graph (λ bytes zone. OfJournal journals asked (λ held.
    GoesWrong asked.stop_after logs bytes zone asked.retry_failed held range (Stopped stop)))
IsRecordedRunFault logs files journals graph asked range fault =
    IsFaultOfFiles files (graph_paths graph)
    (OfFiles files graph (λ bytes zone. ListFault bytes zone range fault)) fault

-- the fault is the first of the files, the graph, the range and what stops the backfill; with a journal, that of the recorded run
abbrev pub IsRunFaultBy : LaunchingOf → Losing → Files → Files → GraphAsked → Option JournalAsked
    → RunRange → CommandFault → Type 0
IsRunFaultBy launching may_lose files journals graph None range fault =
    IsFaultOfFiles files (graph_paths graph)
    (OfFiles files graph (λ bytes zone. RunFault launching may_lose bytes zone range fault)) fault
IsRunFaultBy launching may_lose files journals graph (Some asked) range fault =
    IsRecordedRunFault launching.logs files journals graph asked range fault

-- moments come first: a text is no moment, or no days; or the launcher can't be started; or they mean a range, and the fault is the first of what
-- they are used for
abbrev pub IsRunFault : Losing → Files → Machine → RunAsked → CommandFault → Type 0
IsRunFault may_lose files machine asked BadMoment = IsNoStarts asked.range.starts
IsRunFault may_lose files machine asked (CannotLaunch path) =
    IsUnlaunchable machine.startable (option_map string_bytes asked.launcher) path
IsRunFault may_lose files machine asked fault = (range : RunRange) × MeansRange asked.range range
    × IsRunFaultBy (launching_asked_of asked.launcher asked.logs) may_lose files machine.journals
    asked.graph asked.journal range fault

-- the files but for the report can be read, this is to be cleared, and P holds of what they and the report hold
abbrev pub OfReadClearFiles : Files → ClearInput
    → (ToClear → List ℕ → Option (List ℕ) → Option (List ℕ) → List ℕ → Type 0) → Type 0
OfReadClearFiles files input P =
    AreReadable files (first_paths input) × IsReadable (files input.report)
    × (what : ToClear) × MeansCleared files input.cleared what × OfClearFiles files input (P what)

-- the files but for the report can be read, and this is the first fault of the graph, the table and the range
abbrev pub IsFaultBeforeReport : Files → ClearInput → RunRange → CommandFault → Type 0
IsFaultBeforeReport files input range fault = AreReadable files (first_paths input)
    × OfFilesAndNamedTable files input.graph input.table
    (λ graph zone table. IsFaultBefore graph zone table range fault)

-- the files but for the report can be read, and the graph, the table and the range have no fault, but the report of this path can't be read
abbrev pub LacksReport : Files → ClearInput → RunRange → List ℕ → Type 0
LacksReport files input range path =
    AreReadable files (first_paths input) × (path ≡ input.report) × IsUntold (files path)
    × OfFilesAndNamedTable files input.graph input.table
    (λ graph zone table. IsReady graph zone table range)

-- a file can't be read, the first of those that are read before anything is looked at; or these can be read, and the fault is the first
-- of the graph, the table and the range; or these have none, and the report can't be read; or it can be, and the fault is its own, or
-- of what is to be cleared
abbrev pub IsFaultOfClearInput : Files → ClearInput → RunRange → CommandFault → Type 0
IsFaultOfClearInput files input range (CannotRead path) =
    IsFirstUntold files (first_paths input) path ⊎ LacksReport files input range path
IsFaultOfClearInput files input range (NotRead fault) =
    IsFaultBeforeReport files input range (NotRead fault)
IsFaultOfClearInput files input range (NotSound fault) =
    IsFaultBeforeReport files input range (NotSound fault)
IsFaultOfClearInput files input range (BadTable fault) =
    IsFaultBeforeReport files input range (BadTable fault)
IsFaultOfClearInput files input range (BadRange fault) =
    IsFaultBeforeReport files input range (BadRange fault)
IsFaultOfClearInput files input range (BadReport ReportFault.Io) = ⊥
IsFaultOfClearInput files input range (BadReport fault) =
    OfReadClearFiles files input (λ what graph zone table report.
    IsReady graph zone table range × TellsFault report fault)
IsFaultOfClearInput files input range (NotCleared fault) =
    OfReadClearFiles files input (λ what graph zone table report.
    IsUnclearable graph zone table report range what (NotCleared fault))
IsFaultOfClearInput files input range (BadSeeds fault) =
    OfReadClearFiles files input (λ what graph zone table report.
    IsUnclearable graph zone table report range what (BadSeeds fault))
IsFaultOfClearInput files input range (CannotWrite n) =
    AreReadable files (first_paths input) × IsReadable (files input.report)
IsFaultOfClearInput files input range OutOfMemory = Unit {0}
IsFaultOfClearInput files input range fault = ⊥

-- the fault of clearing; or there is none, and it is what stops the backfill
abbrev pub IsFaultOfClearAsked : Losing → Files → ClearAsked → RunRange → CommandFault → Type 0
IsFaultOfClearAsked may_lose files asked range (Stopped stop) =
    OfReadClearFiles files (clear_input asked) (λ what graph zone table report.
    StopsClearing (is_single_threaded_in asked.progress)
    (launching_asked_of asked.launcher asked.logs) may_lose graph zone table report range what
    stop)
IsFaultOfClearAsked may_lose files asked range fault =
    IsFaultOfClearInput files (clear_input asked) range fault

-- nothing keeps this from being cleared in the report
abbrev pub CanClear : Files → ClearAsked → RunRange → Type 0
CanClear files asked range =
    OfReadClearFiles files (clear_input asked)
    (λ what graph zone table report. IsClearable graph zone table report range what)

-- the backfill goes wrong that clears in the report, and goes on from the journal
abbrev pub GoesWrongOver : Files → Files → ClearAsked → JournalAsked → RunRange → CommandFault
    → Type 0
GoesWrongOver files journals asked journal range fault =
    OfReadClearFiles files (clear_input asked)
    (λ what graph zone table report. OfJournal journals journal (λ held.
    GoesWrongClearing journal.stop_after
    (option_map string_bytes asked.logs) graph zone table report journal.retry_failed held range
    what fault))

-- the fault is the first of the files, of what they hold, and of what is to be cleared; or that can be cleared, and the journal can't be
-- opened, or is refused, or can't be written, or else it is what stops the backfill that goes on from the journal
abbrev pub IsRecordedClearFault : Files → Files → ClearAsked → JournalAsked → RunRange
    → CommandFault → Type 0
IsRecordedClearFault files journals asked journal range (CannotRead path) =
    IsFaultOfClearInput files (clear_input asked) range (CannotRead path)
    ⊎ ((path ≡ string_bytes journal.path) × IsUnopened journals journal
    × CanClear files asked range)
IsRecordedClearFault files journals asked journal range JournalInUse =
    IsUnopened journals journal × CanClear files asked range
IsRecordedClearFault files journals asked journal range (CannotWriteFile path) =
    (path ≡ string_bytes journal.path) × CanClear files asked range
IsRecordedClearFault files journals asked journal range (BadJournal fault) =
    GoesWrongOver files journals asked journal range (BadJournal fault)
IsRecordedClearFault files journals asked journal range (Stopped StopFault.CannotRecord) = ⊥
IsRecordedClearFault files journals asked journal range (Stopped stop) =
    GoesWrongOver files journals asked journal range (Stopped stop)
IsRecordedClearFault files journals asked journal range fault =
    IsFaultOfClearInput files (clear_input asked) range fault

abbrev pub IsClearFaultBy : Losing → Files → Files → ClearAsked → Option JournalAsked → RunRange
    → CommandFault → Type 0
IsClearFaultBy may_lose files journals asked None range fault =
    IsFaultOfClearAsked may_lose files asked range fault
IsClearFaultBy may_lose files journals asked (Some journal) range fault =
    IsRecordedClearFault files journals asked journal range fault

-- moments come first: a text is no moment, or no days; or the launcher can't be started; or they mean a range, and the fault is the first of what
-- they are used for
abbrev pub IsClearFault : Losing → Files → Machine → ClearAsked → CommandFault → Type 0
IsClearFault may_lose files machine asked BadMoment =
    IsNoStarts asked.range.starts ⊎ HasNoMoment asked.cleared
IsClearFault may_lose files machine asked (CannotLaunch path) =
    IsUnlaunchable machine.startable (launcher_used_of asked.table asked.launcher) path
IsClearFault may_lose files machine asked fault = (range : RunRange) × MeansRange asked.range range
    × IsClearFaultBy may_lose files machine.journals asked asked.journal range fault

-- moments come first, as where it is cleared; and then the files, and what is to be cleared
abbrev pub IsClearPlanFault : Files → ClearPlanAsked → CommandFault → Type 0
IsClearPlanFault files asked BadMoment = IsNoStarts asked.range.starts ⊎ HasNoMoment asked.cleared
IsClearPlanFault files asked fault =
    (range : RunRange) × MeansRange asked.range range
    × IsFaultOfClearInput files (plan_input asked) range fault
