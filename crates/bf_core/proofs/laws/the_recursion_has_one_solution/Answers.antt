use Rattle.bf_core.proofs.Solutions.{out_solves, one_solution}
use Rattle.bf_core.proofs.laws.the_recursion_has_one_solution.Goals as goal

pub returns : goal.returns
returns c = record { solves = out_solves; alone = one_solution }
