use Rattle.bf_journal.proofs.Leaving.{left_is_kept}
use Rattle.bf_journal.proofs.laws.what_is_left_is_kept.Goals as goal

pub returns-clause-part : goal.returns-clause-part
returns-clause-part c = left_is_kept

pub returns-clause-fit : goal.returns-clause-fit
returns-clause-fit c dag kept fit n e is = fit n e (left_is_kept dag kept n e is)
