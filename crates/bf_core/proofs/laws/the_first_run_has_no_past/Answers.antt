use Rattle.bf_core.proofs.Solutions.{first_same}
use Rattle.bf_core.proofs.laws.the_first_run_has_no_past.Goals as goal

pub returns : goal.returns
returns c = first_same
