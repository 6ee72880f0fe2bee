use Rattle.bf_try.proofs.GradeLemmas.{grade_fits}
use Rattle.bf_try.proofs.grading.grades_fit.Goals as goal

pub returns : goal.returns
returns c = grade_fits
