-- The text of the report of a backfill, and whether every run of it is a success.
use Rattle.std.specs.Prelude.{◌≡◌, ℕ, Bool, true, false, List, length}
use Rattle.std.specs.FinMap as finite
use Rattle.std.specs.List.{list_all}
use Rattle.bf_value.specs.declared.name.JobName.{JobName}
use Rattle.bf_value.specs.Names.{name_cmp}
use Rattle.bf_plan.specs.declared.plan.Dag.{Dag}
use Rattle.bf_interval.specs.declared.interval.Interval.{Interval}
use Rattle.bf_xcom.specs.declared.values.Given.{Given}
use Rattle.bf_xcom.specs.declared.values.RunState.{RunState}
use Rattle.bf_try.specs.declared.answers.Raw.{Raw}
use Rattle.bf_try.specs.declared.ledger.Entry.{Entry}
use Rattle.bf_try.specs.Tries.{AreAlike, Ledger}
use Rattle.bf_kept.specs.Kept.{AreGradedAnew}
use Rattle.bf_core.specs.Agreement.{HoldsItsTries}
use Rattle.bf_core.specs.Answered.{AreGraded}
use Rattle.bf_report.specs.declared.report.Report.{Report}
use Rattle.bf_report.specs.Dated.{IsDated}
use Rattle.bf_report.specs.Report.{report_text}
use Rattle.bf_report_reader.specs.Rules.{IsShownReport}

abbrev pub is_success_in : RunState → Bool
is_success_in RunState.Success = true
is_success_in RunState.Failed = false

-- the text is that of the recursion's report over the ledger, which keeps the rules by which reports are read; and whether every run of it is a success
pub record IsReportOf (dag : Dag) (intervals : List Interval) (ledger : Ledger) (text : List ℕ)
    (success : Bool) : Type 0 where
  pub report : Report
  pub dated : IsDated dag intervals ledger report
  pub kept : IsShownReport report
  pub text_is : text ≡ report_text report
  pub state : success ≡ list_all (λ run. is_success_in run.state) report.runs

-- the text is that of the recursion's report over the ledger of a backfill, each of whose tries has the grade of an answer that may
-- come; and whether every run of it is a success
pub record IsReportBy (may_answer : JobName → Given → Raw
    → Type 0) (dag : Dag) (intervals : List Interval) (text : List ℕ)
    (success : Bool) : Type 0 where
  pub ledger : finite.FinMap name_cmp Entry
  pub tries : HoldsItsTries dag (length intervals) (finite.get ledger)
  pub graded : AreGraded may_answer dag (finite.get ledger)
  pub reported : IsReportOf dag intervals (finite.get ledger) text success

-- the text is that of the report over a ledger in which the kept tries stand as they are kept, and every other has the grade of an answer that may come; so where those
-- that are kept have such a grade, all have
pub record IsReportFrom (kept : Ledger) (may_answer : JobName → Given → Raw
    → Type 0) (dag : Dag) (intervals : List Interval) (text : List ℕ)
    (success : Bool) : Type 0 where
  pub ledger : finite.FinMap name_cmp Entry
  pub tries : HoldsItsTries dag (length intervals) (finite.get ledger)
  pub again : AreAlike kept (finite.get ledger)
  pub anew : AreGradedAnew kept may_answer dag (finite.get ledger)
  pub all : AreGraded may_answer dag kept → AreGraded may_answer dag (finite.get ledger)
  pub reported : IsReportOf dag intervals (finite.get ledger) text success
