use Rattle.bf_marks.proofs.OnceFacts.{order_once}
use Rattle.bf_marks.proofs.laws.no_row_stands_twice.Goals as goal

pub returns : goal.returns
returns c = order_once
