-- What `explain` comes to.
use Rattle.std.proofs.Common.{◌≡◌, ℤ, ℕ, List, Option, Some, refl, sym, ap, ◌∙◌, subst, inl, inr, string_bytes}
use Rattle.jiff.specs.declared.timestamp.Timestamp.{Timestamp}
use Rattle.bf_plan.specs.declared.plan.Dag.{Dag}
use Rattle.bf_report.specs.declared.report.Report.{Report}
use Rattle.bf_command_line.specs.declared.forms.ExplainAsked.{ExplainAsked}
use Rattle.bf_command_line.specs.declared.forms.TaskAsked.{TaskAsked}
use Rattle.bf_command_fault.specs.declared.fault.CommandFault.{CommandFault}
use Rattle.bf_command_fault.specs.declared.fault.CommandFault.TheVariants.{BadMoment, CannotRead, CannotWrite, Check, Clear, OutOfMemory, Read, Report as BadReport, UnknownIndex}
use Rattle.bf_command_fault.specs.Refusal.{Leaves}
use Rattle.bf_command_fault.specs.declared.status.Status.{Status}
use Rattle.bf_disk.specs.Files.{AreReadable, Files}
use Rattle.bf_explain.specs.declared.paths.Paths.{Paths}
use Rattle.bf_input.specs.Inputs.{IsReportFault, graph_paths}
use Rattle.bf_input.specs.inner.Inputs.{IsReadOf}
use Rattle.bf_input.specs.Moments.{IsNoMoment, Means}
use Rattle.bf_views.specs.declared.planned.Planned.{Planned}
use Rattle.bf_views.specs.Asked.{asked_fault}
use Rattle.bf_views.specs.ExplainFaults.{IsExplainFault, IsExplainFaultAt, IsRefusal}
use Rattle.bf_views.specs.inner.ExplainFaults.{IsFaultOfAsked}
use Rattle.bf_views.specs.Explanations.{IsExplainAnswer, IsExplanation, paths_asked}
use Rattle.bf_views.specs.Planned.{HasGraph, IsPlanningFault}
use Rattle.bf_views.specs.inner.Clocks.{AreClocksBy}
use Rattle.bf_views.specs.inner.Planned.{HasZoneOf, IsPlanned}
use Rattle.bf_planning.specs.Wanting.{IsWanting}

-- a text that means no moment
pub unmeant : (files : Files) (asked : ExplainAsked) (fault : CommandFault) → (fault ≡ BadMoment) × IsNoMoment (string_bytes asked.run) → IsExplainFault files asked fault
unmeant files asked fault is = subst (λ (f : CommandFault). IsExplainFault files asked f) (sym is.0) is.1

pub unmeant_leaves : (Halted : Type 0) (IsDue : List ℕ → Type 0) (before : Option (List ℕ)) (asked : ExplainAsked) (fault : CommandFault) → (fault ≡ BadMoment) × IsNoMoment (string_bytes asked.run) → Leaves Halted IsDue before before fault
unmeant_leaves Halted IsDue before asked fault is = subst (λ (f : CommandFault). Leaves Halted IsDue before before f) (sym is.0) refl

module _ (files : Files) (asked : ExplainAsked) (start : Timestamp) (means : Means (string_bytes asked.run) start) where
  meant : (fault : CommandFault) → IsExplainFaultAt files asked start.nanosecond fault → IsExplainFault files asked fault
  meant BadMoment is = absurd is
  meant fault is = (start, means, is)

  pub memory_explains : IsExplainFault files asked OutOfMemory
  memory_explains = (start, means, tt)

  planning_at : (fault : CommandFault) → IsPlanningFault files asked.graph fault → IsExplainFaultAt files asked start.nanosecond fault
  planning_at OutOfMemory is = tt
  planning_at (CannotRead path) is = inl is
  planning_at (Read fault) is = is
  planning_at (Check fault) is = is
  planning_at _ is = absurd is

  pub planning_explains : (fault : CommandFault) → IsPlanningFault files asked.graph fault → IsExplainFault files asked fault
  planning_explains fault is = meant fault (planning_at fault is)

  report_at : HasGraph files asked.graph → (fault : CommandFault) → IsReportFault (string_bytes asked.report) (files (string_bytes asked.report)) fault → IsExplainFaultAt files asked start.nanosecond fault
  report_at has OutOfMemory is = tt
  report_at has (CannotRead path) is = inr (has, is.0, is.1)
  report_at has (BadReport fault) is = (has, is)
  report_at has _ is = absurd is

  pub report_explains : HasGraph files asked.graph → (fault : CommandFault) → IsReportFault (string_bytes asked.report) (files (string_bytes asked.report)) fault → IsExplainFault files asked fault
  report_explains has fault is = meant fault (report_at has fault is)

  -- with what was read
  module _ (planned : Planned) (report : Report) (are : IsPlanned files asked.graph planned) (readable : AreReadable files (graph_paths asked.graph)) (is_read : IsReadOf (files (string_bytes asked.report)) report) where
    refusal : (fault : CommandFault) → asked_fault planned.timed.plan.dag report start.nanosecond asked.task ≡ Some fault → IsRefusal files asked start.nanosecond fault
    refusal fault is = (
      (readable, is_read.readable),
      λ graph zone held_graph held told.
          let plan = (are graph zone held_graph).1 in
          record {
            draft = plan.draft;
            graph_says = plan.graph_is;
            report = report;
            report_says = is_read.says held told;
            refused = ap (λ (d : Dag). asked_fault d report start.nanosecond asked.task) (sym plan.dag) ∙ is;
          },
    )

    asked_at : (fault : CommandFault) → IsFaultOfAsked planned.timed.plan.dag report start.nanosecond asked.task fault → IsExplainFaultAt files asked start.nanosecond fault
    asked_at OutOfMemory is = tt
    asked_at (Clear fault) is = refusal (Clear fault) is
    asked_at UnknownIndex is = refusal UnknownIndex is
    asked_at _ is = absurd is

    pub asked_explains : (fault : CommandFault) → IsFaultOfAsked planned.timed.plan.dag report start.nanosecond asked.task fault → IsExplainFault files asked fault
    asked_explains fault is = meant fault (asked_at fault is)

    writing_at : (fault : CommandFault) → IsWanting fault → IsExplainFaultAt files asked start.nanosecond fault
    writing_at OutOfMemory is = tt
    writing_at (CannotWrite n) is = (readable, is_read.readable)
    writing_at _ is = absurd is

    pub writing_explains : (fault : CommandFault) → IsWanting fault → IsExplainFault files asked fault
    writing_explains fault is = meant fault (writing_at fault is)

    pub explain_answer : HasZoneOf files asked.graph planned → (clocks : List ℤ) → AreClocksBy planned.timed report clocks → (text : List ℕ)
        → IsExplanation (paths_asked asked) planned.timed.plan.dag report clocks start.nanosecond asked.task text → IsExplainAnswer files asked text Status.Success
    explain_answer zoned clocks by text explains = record {
      success = refl;
      start = start;
      means = means;
      readable = (readable, is_read.readable);
      text_is = λ graph zone held_graph held told.
          let plan = (are graph zone held_graph).1 in
          record {
            draft = plan.draft;
            graph_says = plan.graph_is;
            report = report;
            report_says = is_read.says held told;
            clocks = clocks;
            clocks_are = by graph zone (zoned graph zone held_graph);
            explains = subst (λ (d : Dag). IsExplanation (paths_asked asked) d report clocks start.nanosecond asked.task text) plan.dag explains;
          };
    }
