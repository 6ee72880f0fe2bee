use Rattle.std.proofs.Common.{◌<◌, ◌∙◌, length, arith}
use Rattle.bf_core.specs.Events.{cell_at}
use Rattle.bf_report.specs.Values.{IsSoundTask}
use Rattle.bf_report.proofs.DatedFacts.{all_more, one_reported}
use Rattle.bf_report.proofs.dated.task_reports.Goals as goal

pub loop-task-preserved : goal.loop-task-preserved
loop-task-preserved c =
    let items = c.in_ok-push.ensures.items in
    let tasks = c.args.dag.now.tasks in
    let t = c.loop-task.task in
    let within : t < length tasks = omega arith in
    record {
      reports = rw items (one_reported c.args.dag.now (cell_at c.args.state.now c.args.run) tasks t _ _ within c.in_ok-report_at.ensures.report ∙ c.loop-task.invariant.reports);
      sound = rw items (all_more IsSoundTask _ _ c.loop-task.invariant.sound c.in_ok-report_at.ensures.sound);
    }
