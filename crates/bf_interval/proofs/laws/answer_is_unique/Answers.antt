use Rattle.bf_interval.proofs.OneAnswer as answers
use Rattle.bf_interval.proofs.laws.answer_is_unique.Goals as goal

pub returns : goal.returns
returns c = answers.one_answer
