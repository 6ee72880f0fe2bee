use Rattle.std.proofs.Common.{◌∙◌}
use Rattle.bf_check.proofs.checking.dag_of_found.Goals as goal

pub returns : goal.returns
returns c = λ i. record { id = c.args.draft.dag_id; tasks = (c.from_vec.ensures ∙ c.in_ok-tasks.ensures) i }
