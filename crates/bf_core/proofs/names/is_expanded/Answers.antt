use Rattle.std.proofs.Common.{is_some, ap, ◌∙◌}
use Rattle.std.proofs.lemmas.Option.{unwrap_or-slice_get}
use Rattle.std.specs.Prelude.{unwrap_or}
use Rattle.bf_plan.specs.Plans.{no_task, task_of}
use Rattle.bf_core.specs.Terms.{Task}
use Rattle.bf_core.proofs.names.is_expanded.Goals as goal

pub returns-in-None : goal.returns-in-None
unfolding task_of
returns-in-None c = ap (λ (task : Task). is_some task.expand) (ap (λ o. unwrap_or o no_task) c.in-None.ensures ∙ unwrap_or-slice_get c.args.dag.now.tasks c.args.task no_task)
