use Rattle.std.proofs.Common.{sym, ap}
use Rattle.bf_try.specs.Grades.{is_source}
use Rattle.bf_plan.proofs.PlanLemmas.{task_beyond}
use Rattle.bf_try.proofs.grading.is_expanded_over.Goals as goal

pub returns-in-None : goal.returns-in-None
returns-in-None c = ap (λ task. is_source task.expand c.args.source) (sym (task_beyond c.args.dag.now c.args.task c.in-None.ensures))
