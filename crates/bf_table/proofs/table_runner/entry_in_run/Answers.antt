use Rattle.std.proofs.Common.{◌≡◌, ◌<◌, ◌∙◌, length, ap, arith}
use Rattle.bf_plan.specs.declared.plan.Dag.{Dag}
use Rattle.bf_plan.specs.Plans.{shape_of, task_of}
use Rattle.bf_plan.proofs.PlanLemmas.{task_found}
use Rattle.bf_table.proofs.KeyLemmas.{answer_found}
use Rattle.bf_table.proofs.table_runner.entry_in_run.Goals as goal

pub returns-then-name-len : goal.returns-then-name-len
returns-then-name-len c =
    let dag = c.args.plan.now.dag in
    let task = c.args.name.task in
    let tasks : length c.dag-dag.result.now.tasks ≡ length dag.tasks = ap (λ (d : Dag). length d.tasks) c.dag-dag.ensures.dag in
    let within : task < length dag.tasks = omega (arith, c.if-name-len.true, c.len.ensures, tasks) in
    c.find_by_index.ensures
    ∙ answer_found (shape_of dag).ids (task_of dag task).id c.args.date c.args.name (task_found dag task c.dag-dag.ensures.named within) c.requires.long c.args.entries.now
    c.args.index.now c.requires.index
