use Rattle.std.proofs.Common.{◌≡◌, length, ap, ◌∙◌, arith}
use Rattle.bf_core.specs.Terms.{Dag, JobName}
use Rattle.bf_core.specs.declared.state.Phase.{Phase}
use Rattle.bf_core.proofs.Enabling.{present_there}
use Rattle.bf_core.proofs.Kept.{replay_rows}
use Rattle.bf_sched.proofs.scheduler.grade_answer.Goals as goal

pub returns-then-name-len-clause-memory : goal.returns-then-name-len-clause-memory
returns-then-name-len-clause-memory c = λ may.
    let tasks : length c.dag.result.now.tasks ≡ length c.args.core.now.dag.tasks = ap (λ (d : Dag). length d.tasks) (c.dag.ensures.dag ∙ c.plan.ensures.dag) in
    let there : _ = present_there c.args.core.now.dag c.args.core.now.state (replay_rows _ c.journal-replayed.ensures.replayed) c.args.done.now.name Phase.Running may.0.0.0 in
    let named : c.name-name.result.task ≡ c.args.done.now.name.task = ap (λ (n : JobName). n.task) c.name-name.ensures in
    absurd (omega (arith, there.1, tasks, named, c.len.ensures, c.if-name-len.true))
