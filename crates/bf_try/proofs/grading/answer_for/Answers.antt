use Rattle.bf_try.proofs.GradeLemmas.{failed_answered, skipped_answered, success_answered}
use Rattle.bf_try.proofs.grading.answer_for.Goals as goal

pub returns-in_ok-line_that_pushes-in-Success : goal.returns-in_ok-line_that_pushes-in-Success
returns-in_ok-line_that_pushes-in-Success c =
    success_answered c.args.outcome.now c.with_code.result c.in-Success.pushed _ c.in-Success.is c.with_code.ensures c.in_ok-line_that_pushes-in-Success.ensures.text c.in_ok-line_that_pushes-in-Success.ensures.reads_back

pub returns-in-Failed : goal.returns-in-Failed
returns-in-Failed c = λ dag task fits. failed_answered c.args.outcome.now c.with_code-in-Failed.result _ c.in-Failed.is c.with_code-in-Failed.ensures dag task

pub returns-in-Skipped : goal.returns-in-Skipped
returns-in-Skipped c = λ dag task fits. skipped_answered c.args.outcome.now c.with_code-in-Skipped.result _ c.in-Skipped.is c.with_code-in-Skipped.ensures dag task
