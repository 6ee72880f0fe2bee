use Rattle.bf_reason.proofs.ReasonFacts.{reasons_decide}
use Rattle.bf_reason.proofs.laws.the_reasons_are_those_of_the_decision.Goals as goal

pub returns : goal.returns
returns c = reasons_decide
