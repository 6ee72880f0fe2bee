use Rattle.bf_roots.proofs.WalkFacts.{roots_come_to}
use Rattle.bf_roots.proofs.laws.each_root_is_come_to.Goals as goal

pub returns : goal.returns
returns c = λ dag report run task roots are root there. roots_come_to dag report run task roots are root there
