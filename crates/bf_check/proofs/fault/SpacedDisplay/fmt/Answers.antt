use Rattle.std.proofs.Common.{arith}
use Rattle.std.proofs.lemmas.Grind.{common_steps}
use Rattle.bf_check.proofs.ListLemmas.{join_more}
use Rattle.bf_check.proofs.fault.SpacedDisplay.fmt.Goals as goal

pub loop-text-preserved : goal.loop-text-preserved
loop-text-preserved g c = grind (arith, common_steps, join_more)
