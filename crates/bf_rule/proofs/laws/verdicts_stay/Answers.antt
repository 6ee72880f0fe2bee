use Rattle.bf_rule.proofs.Later.{verdict_stable}
use Rattle.bf_rule.proofs.laws.verdicts_stay.Goals as goal

pub returns : goal.returns
returns c = verdict_stable
