-- Backfills that go on from what is kept, if anything is.
use Rattle.std.proofs.Common.{◌≡◌, ℕ, Bool, List, length, Option, None, Some, Result, Ok, Err, IfOk, subst}
use Rattle.bf_value.specs.declared.name.JobName.{JobName}
use Rattle.bf_plan.specs.declared.plan.Dag.{Dag}
use Rattle.bf_plan.specs.declared.plan.Limits.{Limits}
use Rattle.bf_interval.specs.declared.interval.Interval.{Interval}
use Rattle.bf_xcom.specs.declared.values.Given.{Given}
use Rattle.bf_try.specs.declared.answers.Raw.{Raw}
use Rattle.bf_table.specs.declared.table.TableEntry.{TableEntry}
use Rattle.bf_table.specs.Tables.{Answering, answer_of}
use Rattle.bf_try.specs.Tries.{AreAlike, Ledger}
use Rattle.bf_kept.specs.Kept.{AreFit, AreGradedAnew, nothing}
use Rattle.bf_core.specs.Agreement.{HoldsItsTries}
use Rattle.bf_core.specs.Answered.{AreGraded, MayFault}
use Rattle.bf_core.specs.Endings.{Ending, IsEnd, IsEndOf, KeepsWorkers}
use Rattle.bf_core.specs.Events.{entry_in}
use Rattle.bf_core.specs.declared.fault.BackfillFault.{BackfillFault}
use Rattle.bf_exec.specs.Faults.{MayFail}
use Rattle.bf_report.specs.declared.report.Report.{Report}
use Rattle.bf_commands.specs.declared.cleared.ToClear.{ToClear}
use Rattle.bf_commands.specs.Cleared.{IsKeptOf, IsReportAfter, MayAnswerBy}
use Rattle.bf_commands.specs.OverTable.{AnswersByTable, answering}
use Rattle.bf_commands.specs.Programs.{HearingTries}
use Rattle.bf_commands.specs.Reported.{IsReportBy, IsReportFrom, IsReportOf}
use Rattle.bf_commands.specs.inner.Reported.{IsEndFrom}

-- ---- ends

-- what a call that goes on says of the end
pub end_from : (kept : Ledger) (may_answer : JobName → Given → Raw → Type 0) (dag : Dag) (limits : Limits) (runs workers : ℕ) {E : Type 0} (r : Result Ending E)
    → IfOk r (IsEndOf dag limits runs) → IfOk r (λ e. AreAlike kept (entry_in e.state.ledger)) → IfOk r (λ e. AreGradedAnew kept may_answer dag (entry_in e.state.ledger)) → (AreGraded may_answer dag kept → IfOk r (λ e. AreGraded may_answer dag (entry_in e.state.ledger))) → IfOk r (λ e. KeepsWorkers dag runs workers e.journal)
    → IfOk r (IsEndFrom kept may_answer dag limits runs workers)
end_from kept may_answer dag limits runs workers (Ok e) of again anew all within = record { of = of; again = again; anew = anew; all = all; within = within }
end_from kept may_answer dag limits runs workers (Err f) of again anew all within = tt

-- a runner that answers as the table does has the table's answers
pub end_over : (kept : Ledger) (dag : Dag) (table : List TableEntry) (intervals : List Interval) (runner : Answering) (limits : Limits) (runs workers : ℕ) (ending : Ending) → runner ≡ answering dag table intervals
    → IsEndFrom kept (λ n g raw. raw ≡ answer_of runner n) dag limits runs workers ending → IsEndFrom kept (AnswersByTable dag table intervals) dag limits runs workers ending
end_over kept dag table intervals runner limits runs workers ending same is =
    subst (λ (x : Answering). IsEndFrom kept (λ n g raw. raw ≡ answer_of x n) dag limits runs workers ending) same is

-- ---- reports

-- the report over the ledger of a backfill that has ended so
pub reported_from : {kept : Ledger} {may_answer : JobName → Given → Raw → Type 0} {dag : Dag} {limits : Limits} {intervals : List Interval} {workers : ℕ} {ending : Ending} → IsEnd ending
    → IsEndFrom kept may_answer dag limits (length intervals) workers ending → (text : List ℕ) (success : Bool) → IsReportOf ending.dag intervals (entry_in ending.state.ledger) text success
    → IsReportFrom kept may_answer dag intervals text success
reported_from {dag = dag} {intervals = intervals} {ending = ending} end is text success reports = record {
  ledger = ending.state.ledger;
  tries = subst (λ (p : Dag × ℕ). HoldsItsTries p.0 p.1 (entry_in ending.state.ledger)) (λ i. (is.of.dag_is i, is.of.runs_are i)) end.outcome.tries;
  again = is.again;
  anew = is.anew;
  all = is.all;
  reported = subst (λ (d : Dag). IsReportOf d intervals (entry_in ending.state.ledger) text success) is.of.dag_is reports;
}

-- the same of what is kept of a report where this is cleared
pub reported_after : {may_hear : HearingTries} {answers : Option (List TableEntry)} {dag : Dag} {intervals : List Interval} {was : Report} {what : ToClear} {kept : Ledger} → IsKeptOf dag intervals was what kept
    → (text : List ℕ) (success : Bool) → IsReportFrom kept (MayAnswerBy may_hear answers dag intervals) dag intervals text success
    → IsReportAfter may_hear answers dag intervals was what text success
reported_after {kept = kept} is text success reports = record { kept = kept; kept_is = is; reported = reports }

-- where what is kept could have been answered, the report is that of a backfill from nothing
pub from_graded : {kept : Ledger} {may_answer : JobName → Given → Raw → Type 0} {dag : Dag} {intervals : List Interval} → AreGraded may_answer dag kept → (text : List ℕ) (success : Bool)
    → IsReportFrom kept may_answer dag intervals text success → IsReportBy may_answer dag intervals text success
from_graded graded text success is = record { ledger = is.ledger; tries = is.tries; graded = is.all graded; reported = is.reported }

-- ---- where nothing is kept

pub nothing_fits : (dag : Dag) → AreFit dag nothing
nothing_fits dag n e is = let bad : None ≡ Some e = is in cc

-- each try is answered
pub from_nothing : {may_answer : JobName → Given → Raw → Type 0} {dag : Dag} {intervals : List Interval} (text : List ℕ) (success : Bool) → IsReportFrom nothing may_answer dag intervals text success
    → IsReportBy may_answer dag intervals text success
from_nothing = from_graded (λ n e kept. (let bad : None ≡ Some e = kept in cc))

-- ---- faults

-- a try that may be given up for one reason may be for another
module _ {P Q : JobName → Given → Type 0} (is : (n : JobName) (g : Given) → P n g → Q n g) where
  pub fault_weaker : (fault : BackfillFault) → MayFault P fault → MayFault Q fault
  fault_weaker BackfillFault.OutOfMemory may = tt
  fault_weaker (BackfillFault.Runner name) may = (may.0, is name may.0 may.1)
  fault_weaker BackfillFault.Start may = may

  pub fail_weaker : (fault : BackfillFault) → MayFail P fault → MayFail Q fault
  fail_weaker BackfillFault.OutOfMemory may = tt
  fail_weaker (BackfillFault.Runner name) may = (may.0, is name may.0 may.1)
  fail_weaker BackfillFault.Start may = tt
