use Rattle.std.proofs.Common.{codes, refl}
use Rattle.std.proofs.lemmas.Result.{err_from_is_err_and}
use Rattle.serde_json.specs.View.{view}
use Rattle.bf_read.specs.declared.keys.TaskKey.{TaskKey}
use Rattle.bf_read.specs.Fields.{task_member, text_or_in}
use Rattle.bf_read.specs.Reading.{task_demand_in}
use Rattle.bf_read.proofs.FieldLemmas.{fails_on}
use Rattle.bf_read.proofs.tasks.task_demand_of.Goals as goal

pub returns-in_err-pool-clause-exact : goal.returns-in_err-pool-clause-exact
unfolding task_demand_in
returns-in_err-pool-clause-exact c =
    let p = err_from_is_err_and c.from_residual.result c.from_residual.ensures.1 in
    let read = text_or_in (codes "default_pool") (task_member c.args.task.n (view c.args.task.value.now) TaskKey.Pool) in
    rw (p.1, p.2) (fails_on _ read _ _ refl (rw c.member_at.ensures at c.in_err-pool.ensures))
