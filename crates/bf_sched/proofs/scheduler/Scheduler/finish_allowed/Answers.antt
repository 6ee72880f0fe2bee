use Rattle.std.proofs.Common.{◌≡◌, length, ap, subst, ◌∙◌, arith}
use Rattle.bf_core.specs.Terms.{Dag, JobName}
use Rattle.bf_core.specs.declared.state.Phase.{Phase}
use Rattle.bf_core.specs.Cores.{Backfill, IsReplay}
use Rattle.bf_core.proofs.Enabling.{present_there}
use Rattle.bf_core.proofs.Kept.{replay_rows}
use Rattle.bf_sched.specs.Scheduling.{Schedule}
use Rattle.bf_sched.proofs.scheduler.Scheduler.finish_allowed.Goals as goal

pub grade-requires : goal.grade-requires
grade-requires c =
    let b = c.args.self.now.backfill in
    let same : c.core-core.result.now ≡ b = c.core-core.ensures ∙ ap (λ (s : Schedule). s.backfill) c.self.view_is in
    let tasks : length c.plan.result.now.dag.tasks ≡ length b.dag.tasks = ap (λ (d : Dag). length d.tasks) (c.plan.ensures.dag ∙ ap (λ (x : Backfill). x.dag) same) in
    let named : c.name.result.task ≡ c.args.done.name.task = ap (λ (n : JobName). n.task) c.name.ensures in
    let there : _ = present_there b.dag b.state (replay_rows b (subst IsReplay same c.journal-replayed.ensures.replayed)) c.args.done.name Phase.Running c.requires.0.0.0 in
    omega (arith, there.1, tasks, named)
