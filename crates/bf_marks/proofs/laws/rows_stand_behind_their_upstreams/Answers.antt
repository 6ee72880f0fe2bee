use Rattle.bf_marks.proofs.BehindFacts.{order_behind}
use Rattle.bf_marks.proofs.laws.rows_stand_behind_their_upstreams.Goals as goal

pub returns : goal.returns
returns c = order_behind
