-- What the commands over graphs come to, by what the files hold that they name.
use Rattle.std.specs.Prelude.{◌≡◌, ◌≢◌, ◌⊎◌, ℕ, Bool, true, false, List, [], ◌∷◌, ◌++◌, Option, Some, None, Ok, String, option_map, codes, decimal, string_bytes, Contains, IfSome}
use Rattle.std.specs.Global.{Global}
use Rattle.jiff.specs.declared.timestamp.Timestamp.{Timestamp}
use Rattle.bf_command_line.specs.declared.forms.ClearAsked.{ClearAsked}
use Rattle.bf_command_line.specs.declared.forms.ClearPlanAsked.{ClearPlanAsked}
use Rattle.bf_command_line.specs.declared.forms.ClearedAsked.{ClearedAsked}
use Rattle.bf_command_line.specs.declared.forms.ClearedAsked.TheVariants as cleared
use Rattle.bf_command_line.specs.declared.forms.DryAsked.{DryAsked}
use Rattle.bf_command_line.specs.declared.forms.GraphAsked.{GraphAsked}
use Rattle.bf_command_line.specs.declared.forms.JournalAsked.{JournalAsked}
use Rattle.bf_command_line.specs.declared.forms.ListAsked.{ListAsked}
use Rattle.bf_command_line.specs.declared.forms.RangeAsked.{RangeAsked}
use Rattle.bf_command_line.specs.declared.forms.RunAsked.{RunAsked}
use Rattle.bf_command_line.specs.declared.forms.SeedAsked.{SeedAsked}
use Rattle.bf_command_line.specs.declared.forms.SingleAsked.{SingleAsked}
use Rattle.bf_command_line.specs.declared.forms.StartsAsked.{StartsAsked}
use Rattle.bf_command_line.specs.declared.forms.StartsAsked.TheVariants as starting
use Rattle.bf_days.specs.Days.{SpellDays}
use Rattle.bf_days.specs.declared.days.Days.{Days}
use Rattle.bf_dependents.specs.declared.seeds.Seed.{Seed}
use Rattle.bf_commands.specs.declared.cleared.ToClear.{ToClear}
use Rattle.bf_commands.specs.declared.cleared.ToClear.TheVariants as to_clear
use Rattle.bf_command_fault.specs.declared.status.Status.{Status}
use Rattle.bf_command_fault.specs.Status.{of_runs}
use Rattle.bf_planning.specs.declared.check.GraphSize.{GraphSize}
use Rattle.bf_planning.specs.declared.range.RunRange.{RunRange}
use Rattle.bf_planning.specs.declared.range.Starts.{Starts}
use Rattle.bf_planning.specs.declared.range.Starts.TheVariants.{Between, On}
use Rattle.bf_read.specs.declared.draft.Draft.{Draft}
use Rattle.bf_check.specs.Checking.{dag_of}
use Rattle.bf_interval.specs.declared.interval.Interval.{Interval}
use Rattle.bf_report.specs.declared.report.Report.{Report}
use Rattle.bf_commands.specs.Planned.{IsClearPlan}
use Rattle.bf_commands.specs.Cleared.{IsClearReport}
use Rattle.bf_report_reader.specs.Reading.{IsReadAs}
use Rattle.bf_commands.specs.DatedRuns.{IsDryReport}
use Rattle.bf_planning.specs.Graphs.{IsGraph, IsSizeOf}
use Rattle.bf_commands.specs.Journaled.{IsJournaledClearReport, IsJournaledReport}
use Rattle.bf_planning.specs.Lists.{HasListing, IsListIn}
use Rattle.bf_commands.specs.OneRun.{IsSingleReport}
use Rattle.bf_process.specs.Words.{LaunchingOf}
use Rattle.bf_commands.specs.Programs.{Hearing, IsRunReport}
use Rattle.bf_disk.specs.Files.{AreReadable, Files, IsHeld, IsReadable, IsUntold}
use Rattle.bf_disk.specs.Source.{IsWholeUpTo}
use Rattle.bf_input.specs.Inputs.{OfFiles, OfFilesAndNamedTable, OfFilesAndTable, clear_paths, graph_paths, table_paths}
use Rattle.bf_input.specs.Moments.{IsNoMoment, Means}

-- ---- journals

-- whatever the journal is told to hold
abbrev pub OfJournal : Files → JournalAsked → (List ℕ → Type 0) → Type 0
OfJournal journals asked P =
    (held : List ℕ) → IsHeld (journals (string_bytes asked.path)) held → P held

-- no bytes are told of it
abbrev pub IsUnopened : Files → JournalAsked → Type 0
IsUnopened journals asked = IsUntold (journals (string_bytes asked.path))

-- ---- programs

-- of each path, where it is told: whether its program can be started
abbrev pub Startable : Type 0
Startable = List ℕ → Option Bool

-- what is told of the machine beside its files: what journals hold, and which programs can be started
pub record Machine : Type 0 where
  pub journals : Files
  pub startable : Startable

abbrev pub machine_of : Files → Startable → Machine
machine_of journals startable = record { journals = journals; startable = startable }

-- it isn't told that the launcher can't be started, where one is named
abbrev pub IsLaunchable : Startable → Option (List ℕ) → Type 0
IsLaunchable startable None = Unit {0}
IsLaunchable startable (Some path) = startable path ≢ Some false

-- a launcher of this path is named, and it isn't told that it can be started
abbrev pub IsUnlaunchable : Startable → Option (List ℕ) → List ℕ → Type 0
IsUnlaunchable startable launcher path = (launcher ≡ Some path) × (startable path ≢ Some true)

-- the launcher that is named, where no table is
abbrev pub launcher_used_of : Option (String Global) → Option (String Global) → Option (List ℕ)
launcher_used_of None launcher = option_map string_bytes launcher
launcher_used_of (Some table) launcher = None

-- how programs are launched where such a launcher and such a folder of logs are named; what clocks show is left open
abbrev pub launching_asked_of : Option (String Global) → Option (String Global) → LaunchingOf
launching_asked_of launcher logs =
    record {
      launcher = option_map string_bytes launcher;
      logs = option_map string_bytes logs;
      clocks = [];
    }

-- ---- moments

-- the texts mean that data intervals start there: between these moments, or on these days
abbrev pub MeansStarts : StartsAsked → Starts → Type 0
MeansStarts (starting.Between from to) (Between range) =
    Means (string_bytes from) range.from × Means (string_bytes to) range.to
MeansStarts (starting.On text) (On days) = SpellDays (string_bytes text) days
MeansStarts asked starts = ⊥

-- the texts mean this range: where data intervals start, and whether there have to be some
abbrev pub MeansRange : RangeAsked → RunRange → Type 0
MeansRange asked range = MeansStarts asked.starts range.starts × (range.some ≡ asked.some)

-- the texts mean this task in the run of this logical date, or the instance of this map index
abbrev pub MeansSeed : SeedAsked → Seed → Type 0
MeansSeed asked seed =
    (seed.task ≡ string_bytes asked.task) × Means (string_bytes asked.run) seed.run
    × (seed.index ≡ asked.index)

-- the texts mean these seeds, one by one
abbrev pub MeanSeeds : List SeedAsked → List Seed → Type 0
MeanSeeds [] [] = Unit {0}
MeanSeeds (asked ∷ more) (seed ∷ seeds) = MeansSeed asked seed × MeanSeeds more seeds
MeanSeeds _ _ = ⊥

-- this is to be cleared: what the texts mean; or what a file's bytes say, of which the first are read where they are too many; or what failed; or
-- nothing
abbrev pub MeansCleared : Files → ClearedAsked → ToClear → Type 0
MeansCleared files (cleared.Seeds asked) (to_clear.Seeds seeds) = MeanSeeds asked.items seeds.items
MeansCleared files (cleared.File path) (to_clear.File bytes) =
    IfSome (files (string_bytes path)) (λ held. IsWholeUpTo 8_388_608 held bytes.items)
MeansCleared files cleared.Failed to_clear.Failed = Unit {0}
MeansCleared files cleared.Nothing to_clear.Nothing = Unit {0}
MeansCleared files _ _ = ⊥

-- the text of the run of one of these means no moment
abbrev pub HasUnmeantRun : List SeedAsked → Type 0
HasUnmeantRun asked = (seed : SeedAsked) × Contains asked seed × IsNoMoment (string_bytes seed.run)

abbrev pub HasNoMoment : ClearedAsked → Type 0
HasNoMoment (cleared.Seeds asked) = HasUnmeantRun asked.items
HasNoMoment _ = ⊥

-- a text means no moment, or no days
abbrev pub IsNoStarts : StartsAsked → Type 0
IsNoStarts (starting.Between from to) =
    IsNoMoment (string_bytes from) ⊎ IsNoMoment (string_bytes to)
IsNoStarts (starting.On text) = (days : Days) → SpellDays (string_bytes text) days → ⊥

-- ---- what is written, where nothing is refused and no fault comes

-- the line of a graph's size; there is no singular
abbrev pub size_text : GraphSize → List ℕ
size_text size =
    codes "ok " ++ (decimal size.tasks
    ++ (codes " tasks, " ++ (decimal size.edges ++ codes " edges\n")))

-- the size of a graph without a fault
pub record IsCheckAnswer (files : Files) (asked : GraphAsked) (text : List ℕ)
    (status : Status) : Type 0 where
  pub success : status ≡ Status.Success
  pub readable : AreReadable files (graph_paths asked)
  pub text_is : OfFiles files asked (λ graph zone. (size : GraphSize)
      × (IsSizeOf graph zone size × (text ≡ size_text size)))

-- the data intervals of the range
pub record IsListAnswer (files : Files) (asked : ListAsked) (text : List ℕ)
    (status : Status) : Type 0 where
  pub success : status ≡ Status.Success
  pub range : RunRange
  pub means : MeansRange asked.range range
  pub readable : AreReadable files (graph_paths asked.graph)
  pub text_is : OfFiles files asked.graph (λ graph zone. IsListIn graph zone range text)

-- the report of one run over the table, and whether it is a success
pub record IsSingleAnswer (files : Files) (asked : SingleAsked) (text : List ℕ)
    (status : Status) : Type 0 where
  pub at : Timestamp
  pub means : Means (string_bytes asked.at) at
  pub succeeded : Bool
  pub status_is : status ≡ of_runs succeeded
  pub readable : AreReadable files (table_paths asked.graph (string_bytes asked.table))
  pub text_is : OfFilesAndTable files asked.graph (string_bytes asked.table)
      (λ graph zone table. IsSingleReport graph zone table at text succeeded)

-- the report of a run for each data interval of the range over the table, and whether each is a success
pub record IsDryAnswer (files : Files) (asked : DryAsked) (text : List ℕ)
    (status : Status) : Type 0 where
  pub range : RunRange
  pub means : MeansRange asked.range range
  pub succeeded : Bool
  pub status_is : status ≡ of_runs succeeded
  pub readable : AreReadable files (table_paths asked.graph (string_bytes asked.table))
  pub text_is : OfFilesAndTable files asked.graph (string_bytes asked.table) (λ graph zone table.
      IsDryReport graph zone table range text succeeded)

-- the report of these bytes with the programs of the tasks; where a journal is named, of the backfill that goes on from that
abbrev pub IsRunReportBy : LaunchingOf → Hearing → Files → Option JournalAsked → RunRange → List ℕ
    → Option (List ℕ) → List ℕ → Bool → Type 0
IsRunReportBy launching may_hear journals None range graph zone text success =
    IsRunReport launching may_hear graph zone range text success
IsRunReportBy launching may_hear journals (Some asked) range graph zone text success =
    OfJournal journals asked (λ held. IsJournaledReport launching may_hear graph zone
    asked.retry_failed held range text success)

-- the report of a run for each data interval of the range with the programs of the tasks, and whether each is a success
pub record IsRunAnswer (may_hear : Hearing) (files : Files) (machine : Machine) (asked : RunAsked)
    (text : List ℕ) (status : Status) : Type 0 where
  pub range : RunRange
  pub means : MeansRange asked.range range
  pub succeeded : Bool
  pub status_is : status ≡ of_runs succeeded
  pub launchable : IsLaunchable machine.startable (option_map string_bytes asked.launcher)
  pub readable : AreReadable files (graph_paths asked.graph)
  pub text_is : OfFiles files asked.graph
      (λ graph zone. IsRunReportBy (launching_asked_of asked.launcher asked.logs) may_hear
      machine.journals asked.journal range graph zone text succeeded)

-- what `clear` is given to read, and what is to be cleared in it
pub record ClearInput : Type 0 where
  pub graph : GraphAsked
  pub table : Option (List ℕ)
  pub report : List ℕ
  pub cleared : ClearedAsked

abbrev pub clear_input : ClearAsked → ClearInput
clear_input asked =
    record {
      graph = asked.graph;
      table = option_map string_bytes asked.table;
      report = string_bytes asked.report;
      cleared = asked.cleared;
    }

-- what `clear --plan` is given to read, without a table
abbrev pub plan_input : ClearPlanAsked → ClearInput
plan_input asked =
    record {
      graph = asked.graph;
      table = None;
      report = string_bytes asked.report;
      cleared = asked.cleared;
    }

-- the path of the seeds file, where one is named
abbrev pub seeds_named : ClearedAsked → Option (List ℕ)
seeds_named (cleared.File path) = Some (string_bytes path)
seeds_named _ = None

-- the paths of the files that are read before any is looked at, in this order: all but the report's
abbrev pub first_paths : ClearInput → List (List ℕ)
first_paths input = clear_paths input.graph input.table (seeds_named input.cleared)

-- P holds of whatever the graph file, the zone file, the table where one is named, and the report are told to hold
abbrev pub OfClearFiles : Files → ClearInput
    → (List ℕ → Option (List ℕ) → Option (List ℕ) → List ℕ → Type 0) → Type 0
OfClearFiles files input P = OfFilesAndNamedTable files input.graph input.table (λ graph zone table.
    (report : List ℕ) → IsHeld (files input.report) report → P graph zone table report)

-- the report of these bytes where this is cleared; where a journal is named, of the backfill that goes on from that first
abbrev pub IsClearReportBy : LaunchingOf → Hearing → Files → Option JournalAsked → RunRange
    → ToClear → List ℕ → Option (List ℕ) → Option (List ℕ) → List ℕ → List ℕ → Bool → Type 0
IsClearReportBy launching may_hear journals None range what graph zone table report text success =
    IsClearReport launching may_hear graph zone table report range what text success
IsClearReportBy launching may_hear journals
    (Some asked) range what graph zone table report text success =
    OfJournal journals asked (λ held. IsJournaledClearReport launching may_hear graph zone table
    report asked.retry_failed held range what text success)

-- the report of the backfill that goes on from a report where this is cleared, and whether each run of it is a success
pub record IsClearAnswer (may_hear : Hearing) (files : Files) (machine : Machine)
    (asked : ClearAsked) (text : List ℕ) (status : Status) : Type 0 where
  pub range : RunRange
  pub means : MeansRange asked.range range
  pub what : ToClear
  pub means_what : MeansCleared files asked.cleared what
  pub succeeded : Bool
  pub status_is : status ≡ of_runs succeeded
  pub launchable : IsLaunchable machine.startable (launcher_used_of asked.table asked.launcher)
  pub readable : AreReadable files (first_paths (clear_input asked))
  pub report_readable : IsReadable (files (string_bytes asked.report))
  pub text_is : OfClearFiles files (clear_input asked) (λ graph zone table report.
      IsClearReportBy (launching_asked_of asked.launcher asked.logs) may_hear machine.journals
      asked.journal range what graph zone table report text succeeded)

-- the bytes say a graph, which has no fault, and a report of its runs in the range, and the text tells what is cleared in it
pub record IsClearPlanIn (graph : List ℕ) (file : Option (List ℕ)) (report : List ℕ)
    (range : RunRange) (what : ToClear) (text : List ℕ) : Type 0 where
  pub draft : Draft
  pub found : List Interval
  pub was : Report
  pub graph_is : IsGraph graph file draft
  pub listing : HasListing graph file range (Ok found)
  pub report_says : IsReadAs report was
  pub plan : IsClearPlan (dag_of draft) found was what text

-- what is cleared in the report of the range
pub record IsClearPlanAnswer (files : Files) (asked : ClearPlanAsked) (text : List ℕ)
    (status : Status) : Type 0 where
  pub success : status ≡ Status.Success
  pub range : RunRange
  pub means : MeansRange asked.range range
  pub what : ToClear
  pub means_what : MeansCleared files asked.cleared what
  pub readable : AreReadable files (first_paths (plan_input asked))
  pub report_readable : IsReadable (files (string_bytes asked.report))
  pub text_is : OfClearFiles files (plan_input asked)
      (λ graph zone table report. IsClearPlanIn graph zone report range what text)
