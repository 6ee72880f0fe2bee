-- The faults of commands over bytes, and what they leave.
use Rattle.std.proofs.Common.{◌≡◌, ℕ, ℤ, List, Bool, true, false, Option, None, Some, Result, Ok, Err, IfErr, refl, sym, ◌∙◌, subst, inl, inr}
use Rattle.std.proofs.lemmas.Result.{IfErr-weaker}
use Rattle.jiff.specs.declared.timestamp.Timestamp.{Timestamp}
use Rattle.bf_value.specs.declared.name.JobName.{JobName}
use Rattle.bf_xcom.specs.declared.values.Given.{Given}
use Rattle.bf_plan.specs.Checked.{Checked}
use Rattle.bf_plan.specs.declared.plan.Dag.{Dag}
use Rattle.bf_interval.specs.declared.fault.IntervalFault.{IntervalFault}
use Rattle.bf_interval.specs.declared.fault.IntervalFault.TheVariants as interval
use Rattle.bf_interval.specs.declared.interval.Interval.{Interval}
use Rattle.bf_interval.specs.Runs.{IsNoRunAt, intervals_at}
use Rattle.bf_interval.specs.Years.{IsInYears}
use Rattle.bf_kept.specs.Kept.{MayGiveUpAnew, nothing}
use Rattle.bf_process.specs.Words.{LaunchingOf, MayAnswer}
use Rattle.bf_try.specs.Tries.{Ledger}
use Rattle.bf_table.specs.declared.table.TableEntry.{TableEntry}
use Rattle.bf_table.specs.declared.table.TableFault.{TableFault}
use Rattle.bf_table.specs.Tables.{table_in}
use Rattle.bf_command_fault.specs.Refusal.{Leaves, of_range}
use Rattle.bf_command_fault.specs.declared.fault.CommandFault.{CommandFault}
use Rattle.bf_command_fault.specs.declared.fault.CommandFault.TheVariants.{Table, Range, OutOfMemory, CannotWrite, Stopped}
use Rattle.bf_command_fault.specs.declared.range.RangeFault.{RangeFault}
use Rattle.bf_command_fault.specs.declared.stop.StopFault.{StopFault}
use Rattle.bf_planning.specs.declared.range.RunRange.{RunRange}
use Rattle.bf_commands.specs.inner.Cleared.{IsStopOrWantingAnew, IsStopOrWantingFrom}
use Rattle.bf_commands.specs.DatedRuns.{DryFault, IsDryReport}
use Rattle.bf_planning.specs.Graphs.{IsFaultIn, IsPlanOf}
use Rattle.bf_planning.specs.Lists.{HasListing, IsRangeFault}
use Rattle.bf_commands.specs.OneRun.{SingleFault, IsSingleReport}
use Rattle.bf_commands.specs.OverTable.{AnswersByTable, TableReport}
use Rattle.bf_commands.specs.inner.OverTable.{IsWantingWorkers}
use Rattle.bf_planning.specs.Tables.{IsTableFault}
use Rattle.bf_planning.specs.Wanting.{IsWanting}
use Rattle.bf_planning.specs.Clocks.{AreClocksOf}
use Rattle.bf_commands.specs.Programs.{Hearing, RunFault, IsRunReport, IsStop, IsStopOf, Losing, MayGiveUpLaunched, StopsRunning, launched_by, with_clocks}
use Rattle.bf_commands.specs.inner.Programs.{IsStopOfOrWanting}
use Rattle.bf_commands.specs.Reported.{IsReportBy, IsReportFrom}
use Rattle.bf_commands.proofs.ByPrograms.{stop_weaker}
use Rattle.bf_commands.proofs.FromKept.{from_nothing}
use Rattle.bf_planning.proofs.Faults.{wanting_cases}

-- ---- the whole

pub reported_at : {graph : List ℕ} {file : Option (List ℕ)} {table : List ℕ} {plan : Checked} {entries : List TableEntry} {at : Timestamp} {runs : List Interval}
    → IsPlanOf graph file plan → table_in table ≡ Ok entries → IsInYears at.nanosecond → runs ≡ intervals_at at → (text : List ℕ) (success : Bool)
    → IsReportFrom nothing (AnswersByTable plan.dag entries runs) plan.dag runs text success → IsSingleReport graph file table at text success
reported_at {plan = plan} {entries = entries} {at = at} {runs = runs} is says years same text success from =
    let over : TableReport plan.dag entries runs text success = from_nothing text success from in
    record { draft = is.draft; entries = entries; graph_is = is.graph_is; table_says = says; in_years = years; reported = rw (is.dag, same) at over }

module _ {graph : List ℕ} {file : Option (List ℕ)} {plan : Checked} {range : RunRange} {found : List Interval} (is : IsPlanOf graph file plan) (listing : HasListing graph file range (Ok found)) where
  pub reported_in : {table : List ℕ} {entries : List TableEntry} → table_in table ≡ Ok entries → (text : List ℕ) (success : Bool)
      → IsReportFrom nothing (AnswersByTable plan.dag entries found) plan.dag found text success → IsDryReport graph file table range text success
  reported_in {entries = entries} says text success from =
      let over : TableReport plan.dag entries found text success = from_nothing text success from in
      record { draft = is.draft; entries = entries; found = found; graph_is = is.graph_is; table_says = says; listing = listing; reported = rw is.dag at over }

  pub reported_by : {launching : LaunchingOf} {may_hear : Hearing} {clocks : List ℤ} → AreClocksOf graph file found clocks → (text : List ℕ) (success : Bool)
      → IsReportFrom nothing (MayAnswer (launched_by launching may_hear clocks) plan.dag found) plan.dag found text success → IsRunReport launching may_hear graph file range text success
  reported_by {launching = launching} {may_hear = may_hear} {clocks = clocks} are text success from =
      let by : IsReportBy (MayAnswer (launched_by launching may_hear clocks) plan.dag found) plan.dag found text success = from_nothing text success from in
      record { draft = is.draft; found = found; graph_is = is.graph_is; listing = listing; clocks = clocks; clocks_are = are; reported = rw is.dag at by }

-- ---- by cases: each part of a command has but a few faults

module _ (P : CommandFault → Type 0) where
  -- so it is, or where workers are started, the thread of one is wanting
  pub workers_cases : (alone : Bool) → (alone ≡ false → P (Stopped StopFault.CannotStart)) → P OutOfMemory → ((n : ℕ) → P (CannotWrite n)) → (fault : CommandFault) → IsWantingWorkers alone fault → P fault
  workers_cases alone start memory write (Stopped StopFault.CannotStart) is = start is
  workers_cases alone start memory write fault is = wanting_cases P memory write fault is

  -- a backfill with programs stops, or something is wanting
  pub stop_cases : (may_give_up : JobName → Given → Type 0) (logs : Option (List ℕ)) (dag : Dag) (intervals : List Interval) → ((stop : StopFault) → IsStopOf may_give_up logs dag intervals stop → P (Stopped stop))
      → P OutOfMemory → ((n : ℕ) → P (CannotWrite n)) → (fault : CommandFault) → IsStopOfOrWanting may_give_up logs dag intervals fault → P fault
  stop_cases may_give_up logs dag intervals stops memory write (Stopped stop) is = stops stop is
  stop_cases may_give_up logs dag intervals stops memory write fault is = wanting_cases P memory write fault is

  -- a table has a fault, or memory is wanting
  pub table_cases : (table : List ℕ) → ((fault : TableFault) → table_in table ≡ Err fault → P (Table fault)) → P OutOfMemory → (fault : CommandFault) → IsTableFault table fault → P fault
  table_cases table said memory (Table fault) is = said fault is
  table_cases table said memory OutOfMemory is = memory
  table_cases table said memory _ is = absurd is

  -- a range has a fault, or memory is wanting
  pub range_cases : (graph : List ℕ) (file : Option (List ℕ)) (range : RunRange) → ((fault : RangeFault) → HasListing graph file range (Err fault) → P (Range fault)) → P OutOfMemory
      → (fault : CommandFault) → IsRangeFault graph file range fault → P fault
  range_cases graph file range listed memory (Range fault) is = listed fault is
  range_cases graph file range listed memory OutOfMemory is = memory
  range_cases graph file range listed memory _ is = absurd is

-- ---- the faults of parts are those of commands

module _ (graph : List ℕ) (file : Option (List ℕ)) (table : List ℕ) (at : Timestamp) where
  pub single_table : (plan : Checked) → IsPlanOf graph file plan → (fault : CommandFault) → IsTableFault table fault → SingleFault graph file table at fault
  single_table plan said = table_cases (SingleFault graph file table at) table (λ fault is. (said.draft, said.graph_is, is)) tt

  pub single_moment : (plan : Checked) (entries : List TableEntry) → IsPlanOf graph file plan → table_in table ≡ Ok entries → (fault : IntervalFault) → IsNoRunAt at fault
      → SingleFault graph file table at (of_range fault)
  single_moment plan entries said says fault (inl outside) =
      subst (λ (f : IntervalFault). SingleFault graph file table at (of_range f)) (sym outside.0) (said.draft, said.graph_is, record { entries = entries; says = says }, refl, outside.1)
  single_moment plan entries said says fault (inr memory) = subst (λ (f : IntervalFault). SingleFault graph file table at (of_range f)) (sym memory) tt

  -- the calling thread makes the tries
  pub single_wanting_in : (alone : Bool) → alone ≡ true → (r : Result Bool CommandFault) → IfErr r (IsWantingWorkers alone) → IfErr r (SingleFault graph file table at)
  single_wanting_in alone is r = IfErr-weaker r _ _ (workers_cases (SingleFault graph file table at) alone (λ started. (let bad : true ≡ false = sym is ∙ started in cc)) tt (λ n. tt))

module _ (graph : List ℕ) (file : Option (List ℕ)) (table : List ℕ) (range : RunRange) where
  pub dry_table : (alone : Bool) (plan : Checked) → IsPlanOf graph file plan → (fault : CommandFault) → IsTableFault table fault → DryFault alone graph file table range fault
  dry_table alone plan said = table_cases (DryFault alone graph file table range) table (λ fault is. (said.draft, said.graph_is, is)) tt

  pub dry_range : (alone : Bool) (entries : List TableEntry) → table_in table ≡ Ok entries → (fault : CommandFault) → IsRangeFault graph file range fault → DryFault alone graph file table range fault
  dry_range alone entries says = range_cases (DryFault alone graph file table range) graph file range (λ fault is. (record { entries = entries; says = says }, is)) tt

  pub dry_stop_in : (alone : Bool) (entries : List TableEntry) → table_in table ≡ Ok entries → (found : List Interval) → HasListing graph file range (Ok found) → (r : Result Bool CommandFault)
      → IfErr r (IsWantingWorkers alone) → IfErr r (DryFault alone graph file table range)
  dry_stop_in alone entries says found listing r =
      IfErr-weaker r _ _ (workers_cases (DryFault alone graph file table range) alone (λ started. (found, record { entries = entries; says = says }, listing, refl, started)) tt (λ n. tt))

module _ (launching : LaunchingOf) (may_lose : Losing) (graph : List ℕ) (file : Option (List ℕ)) (range : RunRange) where
  stops_running : (plan : Checked) → IsPlanOf graph file plan → (found : List Interval) → HasListing graph file range (Ok found) → (clocks : List ℤ) → AreClocksOf graph file found clocks → (stop : StopFault)
      → IsStop (with_clocks launching clocks) may_lose plan.dag found stop → StopsRunning launching may_lose graph file range stop
  stops_running plan said found listing clocks are stop is =
      record { draft = said.draft; found = found; graph_is = said.graph_is; listing = listing; clocks = clocks; clocks_are = are; stops = subst (λ (d : Dag). IsStop (with_clocks launching clocks) may_lose d found stop) said.dag is }

  pub run_stop_in : (plan : Checked) → IsPlanOf graph file plan → (found : List Interval) → HasListing graph file range (Ok found) → (clocks : List ℤ) → AreClocksOf graph file found clocks → (r : Result Bool CommandFault)
      → IfErr r (IsStopOrWantingAnew nothing (with_clocks launching clocks) may_lose plan.dag found) → IfErr r (RunFault launching may_lose graph file range)
  run_stop_in plan said found listing clocks are r =
      IfErr-weaker r _ _ (stop_cases (RunFault launching may_lose graph file range) (MayGiveUpAnew nothing (MayGiveUpLaunched (with_clocks launching clocks) may_lose plan.dag found)) launching.logs plan.dag found
      (λ stop is. stops_running plan said found listing clocks are stop
      (stop_weaker {Q = MayGiveUpLaunched (with_clocks launching clocks) may_lose plan.dag found} (λ n g may. may.1) launching.logs plan.dag found stop is)) tt (λ n. tt))

-- what is wanting, whoever answers
pub wanting_from : (alone : Bool) (kept : Ledger) (launching : LaunchingOf) (may_lose : Losing) (answers : Option (List TableEntry)) (dag : Dag) (found : List Interval) (r : Result Bool CommandFault) → IfErr r IsWanting
    → IfErr r (IsStopOrWantingFrom alone kept launching may_lose answers dag found)
wanting_from alone kept launching may_lose None dag found r = IfErr-weaker r _ _ (wanting_cases (IsStopOrWantingFrom alone kept launching may_lose None dag found) tt (λ n. tt))
wanting_from alone kept launching may_lose (Some entries) dag found r = IfErr-weaker r _ _ (wanting_cases (IsStopOrWantingFrom alone kept launching may_lose (Some entries) dag found) tt (λ n. tt))

-- ---- what a fault leaves

module _ (Halted : Type 0) (IsDue : List ℕ → Type 0) (before : Option (List ℕ)) where
  -- a fault leaves all as it was, but where a text can't be written
  pub unwritten_leaves : (P : CommandFault → Type 0) → ((n : ℕ) → ¬ (P (CannotWrite n))) → (fault : CommandFault) → P fault → Leaves Halted IsDue before before fault
  unwritten_leaves P never (CannotWrite n) is = absurd (never n is)
  unwritten_leaves P never _ is = refl

  pub graph_leaves : (graph : List ℕ) (file : Option (List ℕ)) (fault : CommandFault) → IsFaultIn graph file fault → Leaves Halted IsDue before before fault
  graph_leaves graph file = unwritten_leaves (IsFaultIn graph file) (λ n is. is)

  pub table_leaves : (table : List ℕ) (fault : CommandFault) → IsTableFault table fault → Leaves Halted IsDue before before fault
  table_leaves table = unwritten_leaves (IsTableFault table) (λ n is. is)

  pub range_leaves : (graph : List ℕ) (file : Option (List ℕ)) (range : RunRange) (fault : CommandFault) → IsRangeFault graph file range fault → Leaves Halted IsDue before before fault
  range_leaves graph file range = unwritten_leaves (IsRangeFault graph file range) (λ n is. is)

  pub no_run_leaves : (fault : IntervalFault) → Leaves Halted IsDue before before (of_range fault)
  no_run_leaves interval.OutOfMemory = refl
  no_run_leaves fault = refl
