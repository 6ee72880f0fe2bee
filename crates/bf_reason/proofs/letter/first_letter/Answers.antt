use Rattle.std.proofs.Common.{◌∙◌}
use Rattle.bf_reason.specs.Letters.{letter_by_flags_of}
use Rattle.bf_reason.proofs.LetterSteps.{first_of}
use Rattle.bf_reason.proofs.letter.first_letter.Goals as goal

pub returns-clause-letter : goal.returns-clause-letter
returns-clause-letter c = λ instances is.
    c.letter_by_flags.ensures.letter ∙ (λ i. letter_by_flags_of (c.has_letter.ensures i) (c.has_letter-2.ensures i) (c.has_letter-3.ensures i)) ∙ first_of c.args.results.now instances is
