-- What is asked of a report: the run and the task that are found, and what is told of them.
use Rattle.std.proofs.Common.{◌≡◌, ◌<◌, ◌≤◌, ◌∙◌, ap, sym, subst, ℕ, zero, suc, ℤ, Bool, true, false, List, [], ◌∷◌, ◌++◌, length, map, All, Option, Some, replicate, slice_get, slice_index_or, slice_set, string_bytes, get_or, arith}
use Rattle.std.specs.Str.{bytes_eq}
use Rattle.std.specs.Ordering.{int_eq}
use Rattle.std.proofs.lemmas.List.{length-map}
use Rattle.std.proofs.lemmas.List.Quantifiers.{position-Some}
use Rattle.std.proofs.lemmas.Option.{slice_get-get_or}
use Rattle.bf_plan.specs.Plans.{shape_of}
use Rattle.bf_plan.specs.Sound.{IsSound}
use Rattle.bf_plan.specs.declared.plan.Dag.{Dag}
use Rattle.bf_plan.specs.declared.plan.Task.{Task}
use Rattle.bf_report.specs.declared.report.TaskReport.{TaskReport}
use Rattle.bf_report.specs.declared.report.RunReport.{RunReport}
use Rattle.bf_report.specs.declared.report.Report.{Report}
use Rattle.bf_marks.specs.RowOrder.{is_let_go_in, has_no_upstreams_in, order_from, order_of, tasks_where}
use Rattle.bf_command_line.specs.declared.forms.TaskAsked.{TaskAsked}
use Rattle.bf_command_fault.specs.declared.fault.CommandFault.{CommandFault}
use Rattle.bf_command_fault.specs.declared.fault.CommandFault.TheVariants.{UnknownIndex}
use Rattle.bf_explain.specs.Headings.{has_index_in}
use Rattle.bf_views.specs.Asked.{index_fault, is_index_of, run_number, task_fault, task_fault_by, task_number, told_in}
use Rattle.bf_views.specs.Matching.{is_of_graph}
use Rattle.bf_views.proofs.MatchingFacts.{all_tasks}

order_short : (dag : Dag) (n : ℕ) (standing : List Bool) (left : List ℕ) → length (order_from dag n standing left) ≤ n
order_short dag zero standing left = omega arith
order_short dag (suc n) standing [] = omega arith
order_short dag (suc n) standing (task ∷ left) =
    let more = slice_set standing task true in
    let rest = order_short dag n more (tasks_where dag (is_let_go_in dag more task) ++ left) in
    omega arith

pub order_fits : (dag : Dag) → IsSound dag → length (order_of dag) ≤ 20_000
unfolding order_of
order_fits dag sound =
    let few = sound.few_tasks in
    let short = order_short dag (length dag.tasks) (replicate (length dag.tasks) false) (tasks_where dag (has_no_upstreams_in dag)) in
    omega arith

-- a run that was found
module _ (report : Report) (start : ℤ) (run : ℕ) (told_run : RunReport) (found : Some run ≡ run_number report start) (is : told_run ≡ get_or report.runs run told_run) where
  run_within : run < length report.runs
  run_within = (position-Some (λ (each : RunReport). int_eq each.interval.start.nanosecond start) report.runs run told_run (sym found)).0

  pub told_run_at : slice_get report.runs run ≡ Some told_run
  told_run_at = slice_get-get_or report.runs run told_run run_within ∙ ap Some (sym is)

  -- and a task in it
  module _ (dag : Dag) (asked : TaskAsked) (task : ℕ) (matches : is_of_graph dag report ≡ true) (named : Some task ≡ task_number dag asked) where
    within_dag : task < length dag.tasks
    within_dag =
        let place = (position-Some (bytes_eq (string_bytes asked.id)) (shape_of dag).ids task [] (sym named)).0 in
        let same = length-map dag.tasks (λ (each : Task). each.id) in
        omega arith

    pub task_within : task < length told_run.tasks
    task_within =
        let as_many = ap (λ (each : RunReport). length each.tasks) is ∙ all_tasks dag report matches run told_run run_within in
        let within = within_dag in
        omega arith

    pub told_at : (told : TaskReport) → told ≡ get_or told_run.tasks task told → slice_get told_run.tasks task ≡ Some told
    told_at told at = slice_get-get_or told_run.tasks task told task_within ∙ ap Some (sym at)

    pub is_unknown : (told : TaskReport) → told ≡ get_or told_run.tasks task told → has_index_in told asked.index ≡ false → task_fault dag report start asked ≡ Some UnknownIndex
    is_unknown told at absent =
        ap (λ (of_graph : Bool). task_fault_by of_graph report asked.index (task_number dag asked) (run_number report start)) matches
        ∙ ap (λ (t : Option ℕ). task_fault_by true report asked.index t (run_number report start)) (sym named)
        ∙ ap (λ (r : Option ℕ). task_fault_by true report asked.index (Some task) r) (sym found)
        ∙ ap (λ (r : Option RunReport). index_fault (is_index_of asked.index (told_in r task))) told_run_at
        ∙ ap (λ (t : Option TaskReport). index_fault (is_index_of asked.index t)) (told_at told at)
        ∙ ap index_fault absent
