use Rattle.bf_try.proofs.GradeLemmas.{fit_graded}
use Rattle.bf_try.proofs.grading.each_fit_is_a_grade.Goals as goal

pub returns : goal.returns
returns c = fit_graded
