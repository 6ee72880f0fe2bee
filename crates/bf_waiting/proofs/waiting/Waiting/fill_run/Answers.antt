use Rattle.std.proofs.Common.{◌≡◌, length, ap, ◌∙◌, arith}
use Rattle.bf_plan.specs.declared.plan.Dag.{Dag}
use Rattle.bf_waiting.proofs.FillFacts.{filled_run}
use Rattle.bf_waiting.proofs.waiting.Waiting.fill_run.Goals as goal

pub returns : goal.returns
returns c =
    let tasks : length c.dag.result.now.tasks ≡ length c.args.core.now.dag.tasks = ap (λ (d : Dag). length d.tasks) (c.dag.ensures.dag ∙ c.plan.ensures.dag) in
    filled_run c.args.core.now c.loop-task.self c.args.run c.loop-task.task c.journal-replayed.ensures.replayed (omega (arith, tasks, c.len-task-end.ensures, c.loop-task-test.false)) c.loop-task.invariant
