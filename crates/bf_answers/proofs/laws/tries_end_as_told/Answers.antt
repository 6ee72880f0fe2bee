use Rattle.bf_answers.proofs.Again.{told_graded}
use Rattle.bf_answers.proofs.laws.tries_end_as_told.Goals as goal

pub returns : goal.returns
returns c = told_graded c.moments_differ_in_text.ensures
