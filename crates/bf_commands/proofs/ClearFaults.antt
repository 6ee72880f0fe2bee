-- The faults of a backfill that goes on from a report.
use Rattle.std.proofs.Common.{◌≡◌, ℕ, ℤ, Bool, List, Option, Some, None, Result, Ok, IfErr, option_map, refl, ◌∙◌, ap, inl, inr}
use Rattle.std.proofs.lemmas.Result.{IfErr-weaker}
use Rattle.bf_plan.specs.Checked.{Checked}
use Rattle.bf_plan.specs.declared.plan.Dag.{Dag}
use Rattle.bf_interval.specs.declared.interval.Interval.{Interval}
use Rattle.bf_table.specs.declared.table.TableEntry.{TableEntry}
use Rattle.bf_table.specs.Tables.{table_in}
use Rattle.bf_try.specs.Tries.{Ledger}
use Rattle.bf_process.specs.Words.{LaunchingOf}
use Rattle.bf_kept.specs.Kept.{MayGiveUpAnew}
use Rattle.bf_report.specs.declared.report.Report.{Report}
use Rattle.bf_dependents.specs.declared.fault.ClearFault.{ClearFault}
use Rattle.bf_dependents.specs.declared.place.Place.{Place}
use Rattle.bf_clear.specs.Matching.{IsRefusedFor}
use Rattle.bf_command_fault.specs.Refusal.{of_clear}
use Rattle.bf_command_fault.specs.declared.fault.CommandFault.{CommandFault}
use Rattle.bf_command_fault.specs.declared.fault.CommandFault.TheVariants.{Clear as NotCleared, OutOfMemory, Seeds as BadSeeds}
use Rattle.bf_commands.specs.declared.cleared.ToClear.{ToClear}
use Rattle.bf_planning.specs.declared.range.RunRange.{RunRange}
use Rattle.bf_commands.specs.Cleared.{AreAnswersIn, AreCleared, ClearingFault, IsFaultBefore, IsKeptOf, IsPrepared, IsUncleared, IsUnknown, MatchesFor}
use Rattle.bf_commands.specs.inner.Cleared.{IsFaultOfTable, IsStopOrWantingFrom}
use Rattle.bf_planning.specs.Graphs.{IsPlanOf}
use Rattle.bf_planning.specs.Lists.{HasListing, IsRangeFault}
use Rattle.bf_planning.specs.Clocks.{AreClocksOf}
use Rattle.bf_commands.specs.Programs.{Losing, MayGiveUpLaunched}
use Rattle.bf_commands.proofs.Faults.{range_cases, stop_cases, table_cases, workers_cases}

-- ---- the faults of parts are those of what comes before the report

module _ (graph : List ℕ) (file table : Option (List ℕ)) (range : RunRange) where
  pub table_before : (plan : Checked) → IsPlanOf graph file plan → (fault : CommandFault) → IsFaultOfTable table fault → IsFaultBefore graph file table range fault
  table_before plan said fault (bytes, named, is) =
      table_cases (IsFaultBefore graph file table range) bytes (λ f says. (said.draft, said.graph_is, ap (option_map table_in) named ∙ ap Some says)) tt fault is

  pub range_before : (answers : Option (List TableEntry)) → AreAnswersIn table answers → (fault : CommandFault) → IsRangeFault graph file range fault → IsFaultBefore graph file table range fault
  range_before answers says = range_cases (IsFaultBefore graph file table range) graph file range (λ fault is. (answers, says, is)) tt

  pub prepared : (plan : Checked) → IsPlanOf graph file plan → (answers : Option (List TableEntry)) → AreAnswersIn table answers → (found : List Interval) → HasListing graph file range (Ok found)
      → (clocks : List ℤ) → AreClocksOf graph file found clocks → IsPrepared graph file table range plan.dag found clocks answers
  prepared plan said answers says found listing clocks are = record { draft = said.draft; graph_is = said.graph_is; dag_is = said.dag; table_says = says; listing = listing; clocks_are = are }

-- ---- the faults of what is cleared

module _ (dag : Dag) (intervals : List Interval) (was : Report) (what : ToClear) where
  pub unknown_uncleared : (fault : CommandFault) → IsUnknown dag intervals what fault → IsUncleared dag intervals was what fault
  unknown_uncleared (NotCleared fault) is = inl is
  unknown_uncleared _ is = is

  pub mismatch_uncleared : (places : List Place) → AreCleared dag intervals was what places → (fault : ClearFault) → IsRefusedFor (MatchesFor what dag intervals was) fault → IsUncleared dag intervals was what (of_clear fault)
  mismatch_uncleared places are ClearFault.UnknownTask is = absurd is
  mismatch_uncleared places are ClearFault.UnknownRun is = absurd is
  mismatch_uncleared places are ClearFault.ReportMismatch is = inr (places, are, is, refl)
  mismatch_uncleared places are ClearFault.OutOfMemory is = tt

  pub uncleared_again : (alone : Bool) (launching : LaunchingOf) (may_lose : Losing) (answers : Option (List TableEntry)) (fault : CommandFault) → IsUncleared dag intervals was what fault
      → ClearingFault alone launching may_lose answers dag intervals was what fault
  uncleared_again alone launching may_lose answers (NotCleared fault) is = is
  uncleared_again alone launching may_lose answers (BadSeeds fault) is = is
  uncleared_again alone launching may_lose answers OutOfMemory is = tt
  uncleared_again alone launching may_lose answers _ is = absurd is

-- ---- the faults of what comes after it

module _ (alone : Bool) (launching : LaunchingOf) (may_lose : Losing) (dag : Dag) (intervals : List Interval) (was : Report) (what : ToClear) (kept : Ledger) (is_kept : IsKeptOf dag intervals was what kept) where
  stops_again : (answers : Option (List TableEntry)) (fault : CommandFault) → IsStopOrWantingFrom alone kept launching may_lose answers dag intervals fault → ClearingFault alone launching may_lose answers dag intervals was what fault
  stops_again None =
      stop_cases (ClearingFault alone launching may_lose None dag intervals was what) (MayGiveUpAnew kept (MayGiveUpLaunched launching may_lose dag intervals)) launching.logs dag intervals (λ stop is. (kept, is_kept, is)) tt (λ n. tt)
  stops_again (Some entries) = workers_cases (ClearingFault alone launching may_lose (Some entries) dag intervals was what) alone (λ started. (kept, is_kept, (refl, started))) tt (λ n. tt)

  pub again_stop_in : (answers : Option (List TableEntry)) (r : Result Bool CommandFault) → IfErr r (IsStopOrWantingFrom alone kept launching may_lose answers dag intervals)
      → IfErr r (ClearingFault alone launching may_lose answers dag intervals was what)
  again_stop_in answers r = IfErr-weaker r _ _ (stops_again answers)
