-- Why a task in a run, or one of its instances, has its state, and what it was given.
use Rattle.std.specs.Prelude.{◌≡◌, ℕ, zero, suc, ℤ, Bool, true, false, List, [], ◌∷◌, ◌++◌, Option, None, Some, codes, filter, length, map, slice_get}
use Rattle.std.specs.List.{range_with_len}
use Rattle.bf_core.specs.Terms.{Dag, task_of}
use Rattle.bf_report.specs.declared.report.InstanceReport.{InstanceReport}
use Rattle.bf_report.specs.declared.report.TaskReport.{TaskReport}
use Rattle.bf_report.specs.declared.report.RunReport.{RunReport}
use Rattle.bf_report.specs.declared.report.Report.{Report}
use Rattle.bf_reason.specs.Runs.{tasks_before}
use Rattle.bf_roots.specs.declared.step.Root.{Root}
use Rattle.bf_roots.specs.Onward.{cause_among, is_tried_in}
use Rattle.bf_roots.specs.Walks.{AreRootsOf}
use Rattle.bf_why.specs.Decided.{id_of}
use Rattle.bf_why.specs.Why.{why_of}
use Rattle.bf_explain.specs.declared.paths.Paths.{Paths}
use Rattle.bf_explain.specs.Began.{began_lines_of}
use Rattle.bf_explain.specs.Beside.{given_lines_of, pushed_lines_of, task_lines_of}
use Rattle.bf_explain.specs.ByHand.{AreHandLines, index_in}
use Rattle.bf_explain.specs.Clearing.{AreClearSections, has_failure_in, place_told_of, places_to_clear_in}
use Rattle.bf_explain.specs.Headings.{heading_of_state, instance_in, place_in}
use Rattle.bf_explain.specs.Indexes.{state_lines_of}
use Rattle.bf_explain.specs.Runs.{is_upstream_in}
use Rattle.bf_explain.specs.Sections.{lines_text_of, section}

-- ---- its own sections

-- of an expanded task as a whole
abbrev pub instances_lines_of : TaskReport → Option ℕ → List (List ℕ)
instances_lines_of (TaskReport.Mapped instances) None =
    state_lines_of (map (λ instance. instance.result) instances)
instances_lines_of told place = []

abbrev pub lines_if : (InstanceReport → List (List ℕ)) → Option InstanceReport → List (List ℕ)
lines_if lines None = []
lines_if lines (Some instance) = lines instance

abbrev pub own_sections : TaskReport → Option ℕ → List (List ℕ)
own_sections told place =
    (section (codes "instances") (instances_lines_of told place)
    ++ section (codes "pushed") (lines_if pushed_lines_of (instance_in told place)))
    ++ section (codes "given") (lines_if given_lines_of (instance_in told place))

-- ---- the tasks beside it

abbrev pub is_downstream_in : Dag → ℕ → ℕ → Bool
is_downstream_in dag task other = is_upstream_in task (task_of dag other)

-- those of which it is a direct upstream, in file order
abbrev pub downstreams_of : Dag → ℕ → List ℕ
downstreams_of dag task = filter (is_downstream_in dag task) (range_with_len 0 (length dag.tasks))

abbrev pub beside_sections : Dag → List TaskReport → ℕ → List (List ℕ)
beside_sections dag tasks task =
    section (codes "upstream") (task_lines_of dag tasks (task_of dag task).upstreams)
    ++ section (codes "downstream") (task_lines_of dag tasks (downstreams_of dag task))

-- ---- all of it

abbrev pub run_before_of : Report → ℕ → Option RunReport
run_before_of report zero = None
run_before_of report (suc run) = slice_get report.runs run

-- why, with where it began
abbrev pub why_section : Dag → Report → ℕ → RunReport → ℕ → TaskReport → Option ℕ → List Root
    → List (List ℕ)
why_section dag report run told_run task told place roots =
    section (codes "why")
    (why_of dag told_run.tasks (run_before_of report run) task
    (cause_among dag told_run.tasks (tasks_before report run) run task) told place
    ++ began_lines_of dag report run task roots)

-- the roots of a task that wasn't tried
abbrev pub AreRootsIf : Bool → Dag → Report → ℕ → ℕ → List Root → Type 0
AreRootsIf true dag report run task roots = roots ≡ []
AreRootsIf false dag report run task roots = AreRootsOf dag report run task roots

-- the lines on a task that the report has so in this run, or on its instance of this map index, by what the clocks of the graph's zone
-- show at the starts of the runs
pub record AreTaskLines (paths : Paths) (dag : Dag) (report : Report) (clocks : List ℤ) (run : ℕ)
    (told_run : RunReport) (task : ℕ) (told : TaskReport) (index : Option ℤ)
    (lines : List (List ℕ)) : Type 0 where
  pub roots : List Root
  pub hand : List (List ℕ)
  pub clear : List (List ℕ)
  pub are_roots : AreRootsIf (is_tried_in told) dag report run task roots
  pub is_hand : AreHandLines dag told_run.interval report.version clocks run task
      (index_in told index) (instance_in told (place_in index)) hand
  pub is_clear : AreClearSections paths dag report run task
      (places_to_clear_in (place_told_of run task told index)
      (has_failure_in told (place_in index)) roots) clear
  pub lines_are : lines ≡ ((((heading_of_state
      (id_of dag task) told_run.interval.start.nanosecond told (place_in index) ∷ []
      ++ why_section dag report run told_run task told (place_in index) roots)
      ++ own_sections told (place_in index))
      ++ section (codes "by hand") hand)
      ++ beside_sections dag told_run.tasks task)
      ++ clear

abbrev pub IsTaskText : Paths → Dag → Report → List ℤ → ℕ → RunReport → ℕ → TaskReport → Option ℤ
    → List ℕ → Type 0
IsTaskText paths dag report clocks run told_run task told index text =
    (lines : List (List ℕ))
    × AreTaskLines paths dag report clocks run told_run task told index lines
    × (text ≡ lines_text_of lines)
