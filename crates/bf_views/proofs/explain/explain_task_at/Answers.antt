use Rattle.std.proofs.Common.{◌<◌, ◌∙◌, ap, sym, subst, Option, Some, List, get_or, length}
use Rattle.bf_plan.specs.declared.plan.Dag.{Dag}
use Rattle.bf_report.specs.declared.report.TaskReport.{TaskReport}
use Rattle.bf_report.specs.declared.report.RunReport.{RunReport}
use Rattle.bf_views.specs.Matching.{is_of_graph}
use Rattle.bf_views.proofs.ExplainFacts.{is_unknown, task_within, told_at, told_run_at}
use Rattle.bf_views.proofs.MatchingFacts.{all_tasks}
use Rattle.bf_views.proofs.explain.explain_task_at.Goals as goal

pub bounds-as_slice-task : goal.bounds-as_slice-task
bounds-as_slice-task c =
    let told_run = c.index-as_slice-run.result in
    let run_is = c.index-as_slice-run.is ∙ ap (λ (runs : List RunReport). get_or runs c.in-Some-run_number_at.run' told_run) c.as_slice.ensures in
    let matches = ap (λ (d : Dag). is_of_graph d c.args.report.now) (sym c.dag.ensures.dag) ∙ c.in_ok-refuse_other_graph.ensures.ok in
    subst (λ (tasks : List TaskReport). c.in-Some.task < length tasks) (sym c.as_slice-2.ensures)
    (task_within c.args.report.now c.args.start.nanosecond c.in-Some-run_number_at.run' told_run c.in-Some-run_number_at.ensures run_is c.args.plan.now.dag c.args.asked.now c.in-Some.task matches c.in-Some.ensures)

pub returns-then-not-has_index-clause-fault : goal.returns-then-not-has_index-clause-fault
returns-then-not-has_index-clause-fault c =
    let told_run = c.index-as_slice-run.result in
    let told = c.index-as_slice-task.result in
    let run_is = c.index-as_slice-run.is ∙ ap (λ (runs : List RunReport). get_or runs c.in-Some-run_number_at.run' told_run) c.as_slice.ensures in
    let matches = ap (λ (d : Dag). is_of_graph d c.args.report.now) (sym c.dag.ensures.dag) ∙ c.in_ok-refuse_other_graph.ensures.ok in
    let told_is = c.index-as_slice-task.is ∙ ap (λ (tasks : List TaskReport). get_or tasks c.in-Some.task told) c.as_slice-2.ensures in
    is_unknown c.args.report.now c.args.start.nanosecond c.in-Some-run_number_at.run' told_run c.in-Some-run_number_at.ensures run_is c.args.plan.now.dag c.args.asked.now c.in-Some.task matches c.in-Some.ensures told told_is
    (sym c.has_index.ensures ∙ c.if-not-has_index.true)

pub explain_task-requires-clause-all : goal.explain_task-requires-clause-all
explain_task-requires-clause-all c =
    let matches = ap (λ (d : Dag). is_of_graph d c.args.report.now) (sym c.dag.ensures.dag) ∙ c.in_ok-refuse_other_graph.ensures.ok in
    all_tasks c.args.plan.now.dag c.args.report.now matches

pub explain_task-requires-clause-told_run : goal.explain_task-requires-clause-told_run
explain_task-requires-clause-told_run c =
    let told_run = c.index-as_slice-run.result in
    let run_is = c.index-as_slice-run.is ∙ ap (λ (runs : List RunReport). get_or runs c.in-Some-run_number_at.run' told_run) c.as_slice.ensures in
    told_run_at c.args.report.now c.args.start.nanosecond c.in-Some-run_number_at.run' told_run c.in-Some-run_number_at.ensures run_is

pub returns-clause-text : goal.returns-clause-text
returns-clause-text c =
    let told_run = c.index-as_slice-run.result in
    let told = c.index-as_slice-task.result in
    let run_is = c.index-as_slice-run.is ∙ ap (λ (runs : List RunReport). get_or runs c.in-Some-run_number_at.run' told_run) c.as_slice.ensures in
    let matches = ap (λ (d : Dag). is_of_graph d c.args.report.now) (sym c.dag.ensures.dag) ∙ c.in_ok-refuse_other_graph.ensures.ok in
    let told_is = c.index-as_slice-task.is ∙ ap (λ (tasks : List TaskReport). get_or tasks c.in-Some.task told) c.as_slice-2.ensures in
    let told_at_task = told_at c.args.report.now c.args.start.nanosecond c.in-Some-run_number_at.run' told_run c.in-Some-run_number_at.ensures run_is c.args.plan.now.dag c.args.asked.now c.in-Some.task matches c.in-Some.ensures told told_is in
    record {
      run = c.in-Some-run_number_at.run';
      run_is = sym c.in-Some-run_number_at.ensures;
      told_run = told_run;
      told_run_is = told_run_at c.args.report.now c.args.start.nanosecond c.in-Some-run_number_at.run' told_run c.in-Some-run_number_at.ensures run_is;
      text_is = record { task = c.in-Some.task; task_is = sym c.in-Some.ensures; told = told; told_is = told_at_task; text_is = c.in_ok-explain_task.ensures told told_at_task };
    }
