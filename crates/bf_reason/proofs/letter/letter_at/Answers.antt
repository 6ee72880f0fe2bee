use Rattle.std.proofs.Common.{is_some, ap, ◌∙◌}
use Rattle.bf_core.specs.Terms.{task_of}
use Rattle.bf_reason.specs.Letters.{letter_for}
use Rattle.bf_reason.proofs.LetterSteps.{letter_is}
use Rattle.bf_reason.proofs.letter.letter_at.Goals as goal

pub returns-clause-letter : goal.returns-clause-letter
returns-clause-letter c = λ report here earlier.
    let task = c.args.task in let told = c.args.told.now in
    let expanded = c.is_expanded.ensures ∙ ap (λ d. is_some (task_of d task).expand) c.dag.ensures.dag in
    c.letter_by.ensures.letter ∙ (λ i. letter_for (expanded i) (c.cause_at-cause.ensures i) told)
    ∙ letter_is c.args.plan.now.dag report c.args.run task told c.args.settled.now c.args.before.now here earlier
