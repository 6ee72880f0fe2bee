-- What `show` comes to as a grid.
use Rattle.std.proofs.Common.{◌≡◌, ℕ, List, Option, true, false, refl, sym, ap, subst, ◌∙◌, inl, inr, string_bytes}
use Rattle.bf_plan.specs.declared.plan.Dag.{Dag}
use Rattle.bf_interval.specs.declared.fault.IntervalFault.{IntervalFault}
use Rattle.bf_report.specs.declared.report.Report.{Report}
use Rattle.bf_command_line.specs.declared.forms.ShowAsked.{ShowAsked}
use Rattle.bf_device.specs.declared.sending.Cause.{Cause}
use Rattle.bf_device.specs.declared.sending.Cause.TheVariants as cause
use Rattle.bf_device.specs.declared.sending.WriteFault.{WriteFault}
use Rattle.bf_command_fault.specs.Refusal.{Leaves, of_cause, of_write}
use Rattle.bf_command_fault.specs.declared.fault.CommandFault.{CommandFault}
use Rattle.bf_command_fault.specs.declared.fault.CommandFault.TheVariants.{BadMoment, Range as BadRange}
use Rattle.bf_command_fault.specs.declared.range.RangeFault.TheVariants.{Unlisted}
use Rattle.bf_command_fault.specs.declared.status.Status.{Status}
use Rattle.bf_disk.specs.Files.{AreReadable, Files}
use Rattle.bf_grid.specs.Grid.{grid_text}
use Rattle.bf_input.specs.Inputs.{graph_paths}
use Rattle.bf_input.specs.inner.Inputs.{IsReadOf}
use Rattle.bf_views.specs.declared.bounds.Bounds.{Bounds}
use Rattle.bf_views.specs.declared.canvas.Canvas.{Canvas}
use Rattle.bf_views.specs.declared.planned.Planned.{Planned}
use Rattle.bf_views.specs.Bounds.{HasNoBound, MeansBounds, is_reversed_in}
use Rattle.bf_views.specs.GridFaults.{IsGridFault, IsGridFaultIn}
use Rattle.bf_views.specs.Grids.{IsGridAnswer, view_asked}
use Rattle.bf_views.specs.Matching.{is_of_graph}
use Rattle.bf_views.specs.Planned.{HasGraph, IsPlanningFault}
use Rattle.bf_views.specs.inner.Planned.{IsPlanned}
use Rattle.bf_views.specs.Reported.{IsReportedFault}
use Rattle.bf_planning.specs.Wanting.{IsWanting}

-- ---- moments

pub unmeant_fault : (files : Files) (asked : ShowAsked) (fault : CommandFault) → (fault ≡ BadMoment) × HasNoBound asked → IsGridFault files asked fault
unmeant_fault files asked fault is = subst (λ (f : CommandFault). IsGridFault files asked f) (sym is.0) is.1

pub unmeant_leaves : (Halted : Type 0) (IsDue : List ℕ → Type 0) (before : Option (List ℕ)) (asked : ShowAsked) (fault : CommandFault) → (fault ≡ BadMoment) × HasNoBound asked → Leaves Halted IsDue before before fault
unmeant_leaves Halted IsDue before asked fault is = subst (λ (f : CommandFault). Leaves Halted IsDue before before f) (sym is.0) refl

-- the first lies after the last
abbrev pub reversed : CommandFault
reversed = BadRange (Unlisted IntervalFault.RangeReversed)

pub reversed_fault : (files : Files) (asked : ShowAsked) (bounds : Bounds) → MeansBounds asked bounds → HasGraph files asked.graph → (fault : CommandFault) → (fault ≡ reversed) × (is_reversed_in bounds ≡ true) → IsGridFault files asked fault
reversed_fault files asked bounds means has fault is = subst (λ (f : CommandFault). IsGridFault files asked f) (sym is.0) (bounds, means, (has, is.1))

pub reversed_leaves : (Halted : Type 0) (IsDue : List ℕ → Type 0) (before : Option (List ℕ)) (bounds : Bounds) (fault : CommandFault) → (fault ≡ reversed) × (is_reversed_in bounds ≡ true) → Leaves Halted IsDue before before fault
reversed_leaves Halted IsDue before bounds fault is = subst (λ (f : CommandFault). Leaves Halted IsDue before before f) (sym is.0) refl

-- ---- the device

-- memory or the device was wanting
pub is_unwritten : (fault : WriteFault) → IsWanting (of_write fault)
is_unwritten fault = by_cause fault.cause fault.sent
  where
    by_cause : (c : Cause) (n : ℕ) → IsWanting (of_cause c n)
    by_cause cause.Io n = tt
    by_cause cause.OutOfMemory n = tt

-- ---- files

module _ (files : Files) (asked : ShowAsked) (bounds : Bounds) (means : MeansBounds asked bounds) where
  planned_in : (fault : CommandFault) → IsPlanningFault files asked.graph fault → IsGridFaultIn files asked bounds fault
  planned_in (BadRange (Unlisted IntervalFault.RangeReversed)) is = absurd is
  planned_in fault is = inl is

  -- the moments mean some, and the graph's files hold a fault
  pub planned_fault : (fault : CommandFault) → IsPlanningFault files asked.graph fault → IsGridFault files asked fault
  planned_fault BadMoment is = absurd is
  planned_fault fault is = (bounds, means, planned_in fault is)

  in_order : is_reversed_in bounds ≡ false → (fault : CommandFault) → IsReportedFault files asked.graph (string_bytes asked.report) fault → IsGridFaultIn files asked bounds fault
  in_order ordered (BadRange (Unlisted IntervalFault.RangeReversed)) is = absurd is
  in_order ordered fault is = inr (ordered, is)

  -- the moments mean some in order, and the files hold a fault
  pub reported_fault : is_reversed_in bounds ≡ false → (fault : CommandFault) → IsReportedFault files asked.graph (string_bytes asked.report) fault → IsGridFault files asked fault
  reported_fault ordered BadMoment is = absurd is
  reported_fault ordered fault is = (bounds, means, in_order ordered fault is)

  -- the grid of what was read
  pub grid_answer : (canvas : Canvas) → is_reversed_in bounds ≡ false → (planned : Planned) (report : Report) → IsPlanned files asked.graph planned → AreReadable files (graph_paths asked.graph) → IsReadOf (files (string_bytes asked.report)) report →
      is_of_graph planned.timed.plan.dag report ≡ true → (text : List ℕ) → text ≡ grid_text (view_asked asked bounds canvas) planned.timed.plan.dag report → IsGridAnswer canvas files asked text Status.Success
  grid_answer canvas ordered planned report are readable is_read matches text is = record {
    success = refl;
    bounds = bounds;
    means = means;
    ordered = ordered;
    readable = (readable, is_read.readable);
    text_is = λ graph zone held_graph held told.
        let plan = (are graph zone held_graph).1 in
        record {
          draft = plan.draft;
          graph_says = plan.graph_is;
          report = report;
          report_says = is_read.says held told;
          matches = ap (λ (d : Dag). is_of_graph d report) (sym plan.dag) ∙ matches;
          text_is = is ∙ ap (λ (d : Dag). grid_text (view_asked asked bounds canvas) d report) plan.dag;
        };
  }
