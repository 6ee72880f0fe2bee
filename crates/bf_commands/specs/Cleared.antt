-- What the command `clear` reports: a backfill that goes on from what is kept of a report.
use Rattle.std.specs.Prelude.{◌≡◌, ◌⊎◌, ℕ, ℤ, Bool, false, List, [], Option, Some, None, Ok, Err, option_map}
use Rattle.bf_value.specs.declared.name.JobName.{JobName}
use Rattle.bf_read.specs.declared.draft.Draft.{Draft}
use Rattle.bf_check.specs.Checking.{dag_of}
use Rattle.bf_plan.specs.declared.plan.Dag.{Dag}
use Rattle.bf_interval.specs.declared.interval.Interval.{Interval}
use Rattle.bf_xcom.specs.declared.values.Given.{Given}
use Rattle.bf_try.specs.declared.answers.Raw.{Raw}
use Rattle.bf_table.specs.declared.table.TableEntry.{TableEntry}
use Rattle.bf_table.specs.Tables.{table_in}
use Rattle.bf_try.specs.Tries.{Ledger}
use Rattle.bf_process.specs.Words.{LaunchingOf, MayAnswer}
use Rattle.bf_kept.specs.Kept.{MayGiveUpAnew}
use Rattle.bf_report.specs.declared.report.Report.{Report}
use Rattle.bf_report_reader.specs.Reading.{IsReadAs}
use Rattle.bf_dependents.specs.declared.fault.ClearFault.{ClearFault}
use Rattle.bf_dependents.specs.declared.place.Place.{Place}
use Rattle.bf_dependents.specs.Seeds.{places_in, seed_fault}
use Rattle.bf_seeds.specs.declared.fault.SeedsFault.{SeedsFault}
use Rattle.bf_seeds.specs.declared.fault.SeedsFault.TheVariants.{Unknown}
use Rattle.bf_seeds.specs.Seeds.{ArePlacesOfFile, IsFaultOfFile}
use Rattle.bf_clear.specs.Aligning.{AreKeptByIds}
use Rattle.bf_clear.specs.Failing.{AreFailed}
use Rattle.bf_clear.specs.Keeping.{AreKept}
use Rattle.bf_clear.specs.Matching.{MatchesPlan}
use Rattle.bf_command_fault.specs.declared.fault.CommandFault.{CommandFault}
use Rattle.bf_command_fault.specs.declared.fault.CommandFault.TheVariants.{Clear as NotCleared, OutOfMemory, Range, Seeds as BadSeeds, Stopped, Table}
use Rattle.bf_command_fault.specs.declared.stop.StopFault.{StopFault}
use Rattle.bf_commands.specs.declared.cleared.ToClear.{ToClear}
use Rattle.bf_commands.specs.declared.cleared.ToClear.TheVariants as to_clear
use Rattle.bf_planning.specs.declared.range.RunRange.{RunRange}
use Rattle.bf_planning.specs.Graphs.{IsFaultIn, IsGraph}
use Rattle.bf_planning.specs.Lists.{HasListing}
use Rattle.bf_commands.specs.OverTable.{AnswersByTable}
use Rattle.bf_planning.specs.Wanting.{IsWanting}
use Rattle.bf_planning.specs.Clocks.{AreClocksOf}
use Rattle.bf_commands.specs.Programs.{Hearing, HearingTries, IsStopOf, Losing, MayGiveUpLaunched, launched_by, with_clocks}
use Rattle.bf_commands.specs.Reported.{IsReportFrom}

-- the answers of the table where there is one, and else what is heard of tries
abbrev pub MayAnswerBy : HearingTries → Option (List TableEntry) → Dag → List Interval → JobName
    → Given → Raw → Type 0
MayAnswerBy may_hear (Some entries) dag intervals n given raw =
    AnswersByTable dag entries intervals n given raw
MayAnswerBy may_hear None dag intervals n given raw = MayAnswer may_hear dag intervals n given raw

-- the places that are cleared: of seeds whose tasks and runs are known, of those that a file's lines name, or of the instances that failed
abbrev pub AreCleared : Dag → List Interval → Report → ToClear → List Place → Type 0
AreCleared dag intervals was (to_clear.Seeds seeds) places =
    (seed_fault dag intervals seeds.items ≡ None) × (places ≡ places_in dag intervals seeds.items)
AreCleared dag intervals was (to_clear.File bytes) places =
    ArePlacesOfFile dag intervals bytes.items places
AreCleared dag intervals was to_clear.Failed places = AreFailed dag intervals was places
AreCleared dag intervals was to_clear.Nothing places = places ≡ []

-- the report is one of the plan over these data intervals; or where nothing is cleared, one of the graph
abbrev pub MatchesFor : ToClear → Dag → List Interval → Report → Type 0
MatchesFor to_clear.Nothing dag intervals was = was.dag_id ≡ dag.id
MatchesFor what dag intervals was = MatchesPlan dag intervals was

-- this is kept of the report where these places are cleared; where nothing is, of what it tells by ids and data intervals
abbrev pub AreKeptFor : ToClear → Dag → List Interval → List Place → Report → Ledger → Type 0
AreKeptFor to_clear.Nothing dag intervals places was kept =
    AreKeptByIds dag intervals places was kept
AreKeptFor what dag intervals places was kept = AreKept dag places was kept

-- the report matches, what is cleared is known, and this is what is kept
pub record IsKeptOf (dag : Dag) (intervals : List Interval) (was : Report) (what : ToClear)
    (kept : Ledger) : Type 0 where
  pub places : List Place
  pub are_cleared : AreCleared dag intervals was what places
  pub matches : MatchesFor what dag intervals was
  pub are_kept : AreKeptFor what dag intervals places was kept

-- the text is the report of the backfill that goes on from what is kept of this report where this is cleared
pub record IsReportAfter (may_hear : HearingTries) (answers : Option (List TableEntry)) (dag : Dag)
    (intervals : List Interval) (was : Report) (what : ToClear) (text : List ℕ)
    (success : Bool) : Type 0 where
  pub kept : Ledger
  pub kept_is : IsKeptOf dag intervals was what kept
  pub reported : IsReportFrom kept
      (MayAnswerBy may_hear answers dag intervals) dag intervals text success

-- the table's bytes say these answers, where there is a table
abbrev pub AreAnswersIn : Option (List ℕ) → Option (List TableEntry) → Type 0
AreAnswersIn table answers = option_map table_in table ≡ option_map Ok answers

-- the bytes say a graph, which has no fault, a table where there is one, and a report of the graph's runs in the range; and the
-- text is the report of the backfill that goes on from it where this is cleared
pub record IsClearReport (launching : LaunchingOf) (may_hear : Hearing) (graph : List ℕ)
    (file table : Option (List ℕ)) (report : List ℕ) (range : RunRange) (what : ToClear)
    (text : List ℕ) (success : Bool) : Type 0 where
  pub draft : Draft
  pub answers : Option (List TableEntry)
  pub found : List Interval
  pub was : Report
  pub graph_is : IsGraph graph file draft
  pub table_says : AreAnswersIn table answers
  pub listing : HasListing graph file range (Ok found)
  pub report_says : IsReadAs report was
  pub clocks : List ℤ
  pub clocks_are : AreClocksOf graph file found clocks
  pub reported : IsReportAfter (launched_by launching may_hear clocks) answers
      (dag_of draft) found was what text success

-- ---- what goes wrong

-- what the bytes of a graph and of a table come to over a range: a graph's tasks, its runs, what clocks show at their moments, and the
-- answers where there is a table
pub record IsPrepared (graph : List ℕ) (file table : Option (List ℕ)) (range : RunRange) (dag : Dag)
    (found : List Interval) (clocks : List ℤ) (answers : Option (List TableEntry)) : Type 0 where
  pub draft : Draft
  pub graph_is : IsGraph graph file draft
  pub dag_is : dag ≡ dag_of draft
  pub table_says : AreAnswersIn table answers
  pub listing : HasListing graph file range (Ok found)
  pub clocks_are : AreClocksOf graph file found clocks

-- the graph, the table and the range have no fault
pub record IsReady (graph : List ℕ) (file table : Option (List ℕ)) (range : RunRange) : Type 0 where
  pub dag : Dag
  pub found : List Interval
  pub clocks : List ℤ
  pub answers : Option (List TableEntry)
  pub prepared : IsPrepared graph file table range dag found clocks answers

-- the fault is the first: those of the graph go before those of the table, where there is one, and those of the range come last
abbrev pub IsFaultBefore : List ℕ → Option (List ℕ) → Option (List ℕ) → RunRange → CommandFault
    → Type 0
IsFaultBefore graph file table range (Table fault) =
    (draft : Draft) × IsGraph graph file draft × (option_map table_in table ≡ Some (Err fault))
IsFaultBefore graph file table range (Range fault) =
    (answers : Option (List TableEntry)) × AreAnswersIn table answers
    × HasListing graph file range (Err fault)
IsFaultBefore graph file table range fault = IsFaultIn graph file fault

-- the task or the run of a seed is unknown: of the first task, and else of the first run, or by lines of a file
abbrev pub IsUnknownSeed : Dag → List Interval → ToClear → ClearFault → Type 0
IsUnknownSeed dag intervals (to_clear.Seeds seeds) fault =
    seed_fault dag intervals seeds.items ≡ Some fault
IsUnknownSeed dag intervals (to_clear.File bytes) fault =
    IsFaultOfFile dag intervals bytes.items (Unknown fault)
IsUnknownSeed dag intervals _ fault = ⊥

-- the file is refused for this
abbrev pub IsBadFile : Dag → List Interval → ToClear → SeedsFault → Type 0
IsBadFile dag intervals (to_clear.File bytes) fault = IsFaultOfFile dag intervals bytes.items fault
IsBadFile dag intervals _ fault = ⊥

-- what is to be cleared isn't known for this
abbrev pub IsUnknown : Dag → List Interval → ToClear → CommandFault → Type 0
IsUnknown dag intervals what (NotCleared fault) = IsUnknownSeed dag intervals what fault
IsUnknown dag intervals what (BadSeeds fault) = IsBadFile dag intervals what fault
IsUnknown dag intervals what OutOfMemory = Unit {0}
IsUnknown dag intervals what fault = ⊥

-- what is to be cleared is known, and the report, which doesn't match, is refused for this
abbrev pub IsMismatch : Dag → List Interval → Report → ToClear → ClearFault → Type 0
IsMismatch dag intervals was what fault =
    (places : List Place) × AreCleared dag intervals was what places
    × (MatchesFor what dag intervals was → ⊥) × (fault ≡ ClearFault.ReportMismatch)

-- nothing is cleared for this; or memory is wanting
abbrev pub IsUncleared : Dag → List Interval → Report → ToClear → CommandFault → Type 0
IsUncleared dag intervals was what (NotCleared fault) =
    IsUnknownSeed dag intervals what fault ⊎ IsMismatch dag intervals was what fault
IsUncleared dag intervals was what fault = IsUnknown dag intervals what fault

-- the graph, the table and the range have no fault, the bytes say a report, and nothing is cleared in it for this
pub record IsUnclearable (graph : List ℕ) (file table : Option (List ℕ)) (report : List ℕ)
    (range : RunRange) (what : ToClear) (fault : CommandFault) : Type 0 where
  pub ready : IsReady graph file table range
  pub was : Report
  pub report_says : IsReadAs report was
  pub fault_is : IsUncleared ready.dag ready.found was what fault

-- where a table answers and workers are started, one can't be; else the backfill stops as one of programs does, but at no try
-- that is kept
abbrev pub IsStopFrom : Bool → Ledger → LaunchingOf → Losing → Option (List TableEntry) → Dag
    → List Interval → StopFault → Type 0
IsStopFrom alone kept launching may_lose (Some entries) dag intervals stop =
    (stop ≡ StopFault.CannotStart) × (alone ≡ false)
IsStopFrom alone kept launching may_lose None dag intervals stop =
    IsStopOf (MayGiveUpAnew kept (MayGiveUpLaunched launching may_lose dag intervals))
    launching.logs dag intervals stop

-- the fault is the first: nothing is cleared in the report for this; or it is, and the backfill stops; or memory or the device is wanting
abbrev pub ClearingFault : Bool → LaunchingOf → Losing → Option (List TableEntry) → Dag
    → List Interval → Report → ToClear → CommandFault → Type 0
ClearingFault alone launching may_lose answers dag intervals was what (NotCleared fault) =
    IsUncleared dag intervals was what (NotCleared fault)
ClearingFault alone launching may_lose answers dag intervals was what (BadSeeds fault) =
    IsUncleared dag intervals was what (BadSeeds fault)
ClearingFault alone launching may_lose answers dag intervals was what (Stopped stop) =
    (kept : Ledger) × IsKeptOf dag intervals was what kept
    × IsStopFrom alone kept launching may_lose answers dag intervals stop
ClearingFault alone launching may_lose answers dag intervals was what fault = IsWanting fault

-- the graph, the table and the range have no fault, the bytes say a report, this is cleared in it, and the backfill that goes on from it stops
pub record StopsClearing (alone : Bool) (launching : LaunchingOf) (may_lose : Losing)
    (graph : List ℕ) (file table : Option (List ℕ)) (report : List ℕ) (range : RunRange)
    (what : ToClear) (stop : StopFault) : Type 0 where
  pub ready : IsReady graph file table range
  pub was : Report
  pub report_says : IsReadAs report was
  pub kept : Ledger
  pub kept_is : IsKeptOf ready.dag ready.found was what kept
  pub stops : IsStopFrom alone kept
      (with_clocks launching ready.clocks) may_lose ready.answers ready.dag ready.found stop
