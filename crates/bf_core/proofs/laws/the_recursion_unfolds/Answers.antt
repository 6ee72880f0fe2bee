use Rattle.bf_core.proofs.Depth.{out_is}
use Rattle.bf_core.proofs.laws.the_recursion_unfolds.Goals as goal

pub returns : goal.returns
returns c = out_is
