use Rattle.std.proofs.Common.{◌≡◌, length, ap, ◌∙◌, arith}
use Rattle.bf_plan.specs.declared.plan.Dag.{Dag}
use Rattle.bf_core.proofs.Kept.{replay_rows}
use Rattle.bf_rescan.proofs.Soonest.{task_more, run_passed}
use Rattle.bf_rescan.proofs.moments.earliest_moment_up_to_run.Goals as goal

pub loop-task-preserved : goal.loop-task-preserved
loop-task-preserved c = rw c.earlier_moment-soonest.ensures (task_more c.args.core.now c.args.run c.loop-task.task c.loop-task.soonest c.earliest_moment_of_task.result c.loop-task.invariant c.earliest_moment_of_task.ensures)

pub returns : goal.returns
returns c =
    let tasks : length c.dag.result.now.tasks ≡ length c.args.core.now.dag.tasks = ap (λ (d : Dag). length d.tasks) (c.dag.ensures.dag ∙ c.plan.ensures.dag) in
    run_passed c.args.core.now (replay_rows _ c.journal-replayed.ensures.replayed) c.args.run c.loop-task.task (omega (arith, tasks, c.len-task-end.ensures, c.loop-task-test.false)) c.loop-task.soonest c.loop-task.invariant
