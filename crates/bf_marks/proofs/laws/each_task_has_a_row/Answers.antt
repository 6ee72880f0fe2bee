use Rattle.bf_marks.proofs.AllFacts.{order_all}
use Rattle.bf_marks.proofs.laws.each_task_has_a_row.Goals as goal

pub returns : goal.returns
returns c = order_all
