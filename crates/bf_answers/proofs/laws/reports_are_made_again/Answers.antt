use Rattle.bf_answers.proofs.Again.{made_again}
use Rattle.bf_answers.proofs.laws.reports_are_made_again.Goals as goal

pub returns : goal.returns
returns c = made_again c.moments_differ_in_text.ensures
