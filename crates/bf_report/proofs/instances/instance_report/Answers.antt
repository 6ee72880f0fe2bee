use Rattle.std.proofs.Common.{◌≡◌, ap, ◌∙◌}
use Rattle.bf_plan.specs.Plans.{task_of}
use Rattle.bf_report.proofs.DatedFacts.{pulls_in_range}
use Rattle.bf_report.proofs.instances.instance_report.Goals as goal

pub pulls_of-requires : goal.pulls_of-requires
pulls_of-requires c =
    let same : c.as_slice-tasks.result.now ≡ (task_of c.args.dag.now c.args.task).pulls = c.as_slice-tasks.ensures ∙ ap (λ task. task.pulls) c.task.ensures in
    rw same (pulls_in_range c.args.dag.now c.requires.dag c.args.task)
