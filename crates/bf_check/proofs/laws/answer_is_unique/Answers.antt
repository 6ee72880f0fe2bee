use Rattle.bf_check.proofs.OneAnswer.{one_fault, not_both}
use Rattle.bf_check.proofs.laws.answer_is_unique.Goals as goal

pub returns : goal.returns
returns c = record { fault = λ draft file x y. one_fault draft file x y; accepted = λ draft file x. not_both draft file x }
