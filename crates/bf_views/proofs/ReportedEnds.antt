-- Why a report of a graph isn't shown.
use Rattle.std.proofs.Common.{List, Option, ℕ, refl, sym, ap, ◌∙◌, inl, inr}
use Rattle.bf_plan.specs.declared.plan.Dag.{Dag}
use Rattle.bf_report.specs.declared.report.Report.{Report}
use Rattle.bf_dependents.specs.declared.fault.ClearFault.{ClearFault}
use Rattle.bf_command_line.specs.declared.forms.GraphAsked.{GraphAsked}
use Rattle.bf_command_fault.specs.Refusal.{Leaves}
use Rattle.bf_command_fault.specs.declared.fault.CommandFault.{CommandFault}
use Rattle.bf_command_fault.specs.declared.fault.CommandFault.TheVariants.{CannotRead, CannotWrite, Check, Clear, OutOfMemory, Read, Report as BadReport}
use Rattle.bf_disk.specs.Files.{AreReadable, Files}
use Rattle.bf_input.specs.Inputs.{IsReportFault, graph_paths}
use Rattle.bf_input.specs.inner.Inputs.{IsReadOf}
use Rattle.bf_views.specs.declared.planned.Planned.{Planned}
use Rattle.bf_views.specs.Matching.{is_of_graph}
use Rattle.bf_views.specs.Planned.{HasGraph, IsPlanningFault}
use Rattle.bf_views.specs.inner.Planned.{IsPlanned}
use Rattle.bf_views.specs.inner.Refused.{IsRefusedBy}
use Rattle.bf_views.specs.Reported.{IsReportedFault}
use Rattle.bf_planning.specs.Wanting.{IsWanting}

-- a fault that isn't of the device leaves nothing of the text
pub unwritten_leaves : (Halted : Type 0) (IsDue : List ℕ → Type 0) (before : Option (List ℕ)) (Is : CommandFault → Type 0) → ((n : ℕ) → Is (CannotWrite n) → ⊥)
    → (fault : CommandFault) → Is fault → Leaves Halted IsDue before before fault
unwritten_leaves Halted IsDue before Is never (CannotWrite n) is = absurd (never n is)
unwritten_leaves Halted IsDue before Is never _ is = refl

-- what was planned is a graph without a fault
pub has_graph : (files : Files) (asked : GraphAsked) (planned : Planned) → IsPlanned files asked planned → AreReadable files (graph_paths asked) → HasGraph files asked
has_graph files asked planned are readable = (readable, λ graph zone held. let plan = (are graph zone held).1 in (plan.draft, plan.graph_is))

module _ (files : Files) (asked : GraphAsked) (path : List ℕ) where
  pub planning_fault : (fault : CommandFault) → IsPlanningFault files asked fault → IsReportedFault files asked path fault
  planning_fault OutOfMemory is = tt
  planning_fault (CannotRead p) is = inl is
  planning_fault (Read fault) is = is
  planning_fault (Check fault) is = is
  planning_fault _ is = absurd is

  pub report_fault : HasGraph files asked → (fault : CommandFault) → IsReportFault path (files path) fault → IsReportedFault files asked path fault
  report_fault has OutOfMemory is = tt
  report_fault has (CannotRead p) is = inr (has, is.0, is.1)
  report_fault has (BadReport fault) is = (has, is)
  report_fault has _ is = absurd is

  -- with what was read
  module _ (planned : Planned) (report : Report) (are : IsPlanned files asked planned) (readable : AreReadable files (graph_paths asked)) (is_read : IsReadOf (files path) report) where
    pub refusal_fault : (fault : CommandFault) → IsRefusedBy (is_of_graph planned.timed.plan.dag report) fault → IsReportedFault files asked path fault
    refusal_fault OutOfMemory is = tt
    refusal_fault (Clear ClearFault.ReportMismatch) is = (
      (readable, is_read.readable),
      λ graph zone held_graph held told.
          let plan = (are graph zone held_graph).1 in
          record { draft = plan.draft; graph_says = plan.graph_is; report = report; report_says = is_read.says held told; differs = ap (λ (d : Dag). is_of_graph d report) (sym plan.dag) ∙ is },
    )
    refusal_fault _ is = absurd is

    pub writing_fault : (fault : CommandFault) → IsWanting fault → IsReportedFault files asked path fault
    writing_fault OutOfMemory is = tt
    writing_fault (CannotWrite n) is = (readable, is_read.readable)
    writing_fault _ is = absurd is
