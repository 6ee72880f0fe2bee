use Rattle.std.proofs.Common.{ap, ◌∙◌}
use Rattle.std.proofs.lemmas.Option.{unwrap_or-slice_get}
use Rattle.std.specs.Prelude.{unwrap_or}
use Rattle.bf_plan.specs.declared.plan.Task.{Task}
use Rattle.bf_plan.specs.Plans.{no_task, task_of}
use Rattle.bf_plan.proofs.plan.Dag.id_of.Goals as goal

pub returns-in-None : goal.returns-in-None
unfolding task_of
returns-in-None c = ap (λ (task : Task). task.id) (ap (λ o. unwrap_or o no_task) c.in-None.ensures ∙ unwrap_or-slice_get c.args.self.now.tasks c.args.task no_task)
