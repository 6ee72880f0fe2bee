-- What a report has that is one of a graph, by the rules by which reports are read.
use Rattle.std.proofs.Common.{◌≡◌, ℕ, ◌==◌, ◌&&◌, ◌||◌, true, List, [], ◌∷◌, length, All, eqb-true}
use Rattle.std.specs.List.{AllByRecursion, list_all, zip}
use Rattle.std.specs.Str.{bytes_eq}
use Rattle.std.proofs.lemmas.Bool.{and_parts}
use Rattle.std.proofs.lemmas.List.Elements.{All-from_recursion}
use Rattle.bf_plan.specs.declared.plan.Dag.{Dag}
use Rattle.bf_report.specs.declared.report.Version.{Version}
use Rattle.bf_report.specs.declared.report.TaskReport.{TaskReport}
use Rattle.bf_report.specs.declared.report.RunReport.{RunReport}
use Rattle.bf_report.specs.declared.report.Report.{Report}
use Rattle.bf_report_reader.specs.Rules.{IsShownReport, IsShownRun, IsShownTask}
use Rattle.bf_clear.specs.Matching.{are_ids_in, are_runs_in, are_tasks_in, is_report_in, is_run_in, is_same_interval_in, is_task_in}
use Rattle.bf_reason.specs.Settled.{IsFewTask}
use Rattle.bf_views.specs.Matching.{intervals_in, is_of_graph}

each_run : (version : Version) (dag : Dag) (runs : List RunReport) → list_all (λ pair. is_run_in version dag pair.0 pair.1) (zip runs (intervals_in runs)) ≡ true →
    AllByRecursion (λ run. length run.tasks ≡ length dag.tasks) runs
each_run version dag [] e = tt
each_run version dag (run ∷ runs) e =
    let (first, rest) = and_parts (is_run_in version dag run run.interval) (list_all (λ pair. is_run_in version dag pair.0 pair.1) (zip runs (intervals_in runs))) e in
    let tasks = (and_parts (is_same_interval_in run.interval run.interval) (are_tasks_in version dag run.tasks) first).1 in (
      eqb-true (length run.tasks) (length dag.tasks) (and_parts (length run.tasks == length dag.tasks) (list_all (λ pair. is_task_in version dag pair.0 pair.1) (zip run.tasks dag.tasks)) tasks).0,
      each_run version dag runs rest,
    )

pub all_tasks : (dag : Dag) (report : Report) → is_of_graph dag report ≡ true → All (λ run. length run.tasks ≡ length dag.tasks) report.runs
unfolding is_report_in
all_tasks dag report e =
    let intervals = intervals_in report.runs in
    let behind = (and_parts (bytes_eq report.dag_id dag.id) ((length intervals == 0 || are_ids_in report.tasks dag.tasks) && are_runs_in report.version dag report.runs intervals) e).1 in
    let runs = (and_parts (length intervals == 0 || are_ids_in report.tasks dag.tasks) (are_runs_in report.version dag report.runs intervals) behind).1 in
    let each = (and_parts (length report.runs == length intervals) (list_all (λ pair. is_run_in report.version dag pair.0 pair.1) (zip report.runs intervals)) runs).1 in
    All-from_recursion (λ (run : RunReport). length run.tasks ≡ length dag.tasks) report.runs (each_run report.version dag report.runs each)

few_task : (version : Version) (task : TaskReport) → IsShownTask version task → IsFewTask task
few_task version TaskReport.NoStatus shown = tt
few_task version TaskReport.Skipped shown = tt
few_task version TaskReport.UpstreamFailed shown = tt
few_task version (TaskReport.Ran instance) shown = tt
few_task version (TaskReport.Mapped instances) shown = shown.1

few_tasks : (version : Version) (tasks : List TaskReport) → AllByRecursion (IsShownTask version) tasks → AllByRecursion IsFewTask tasks
few_tasks version [] shown = tt
few_tasks version (task ∷ tasks) shown = (few_task version task shown.0, few_tasks version tasks shown.1)

few_runs : (version : Version) (n : ℕ) (runs : List RunReport) → AllByRecursion (IsShownRun version n) runs → AllByRecursion (λ run. All IsFewTask run.tasks) runs
few_runs version n [] shown = tt
few_runs version n (run ∷ runs) shown = (All-from_recursion IsFewTask run.tasks (few_tasks version run.tasks shown.0.each), few_runs version n runs shown.1)

pub few_instances : (report : Report) → IsShownReport report → All (λ run. All IsFewTask run.tasks) report.runs
few_instances report shown = All-from_recursion (λ (run : RunReport). All IsFewTask run.tasks) report.runs (few_runs report.version (length report.tasks) report.runs shown.runs)
