use Rattle.std.proofs.Common.{◌≡◌, not, is_some, subst}
use Rattle.std.specs.Char.{is_ascii_digit}
use Rattle.bf_core.specs.declared.decision.Decision.{Decision}
use Rattle.bf_core.specs.Terms.{task_of}
use Rattle.bf_reason.specs.Reasons.{reason}
use Rattle.bf_reason.specs.Letters.{seen_at, before_at, letter_of, follows}
use Rattle.bf_reason.proofs.LetterFacts.{digits_tell}
use Rattle.bf_reason.proofs.ReasonFacts.{reasons_decide}
use Rattle.bf_reason.proofs.laws.digits_tell_what_does_not_follow.Goals as goal

pub returns : goal.returns
returns c = λ dag report run task told.
    let expanded = is_some (task_of dag task).expand in
    let seen = seen_at report run in
    let before = before_at report run task in
    subst (λ (d : Decision). is_ascii_digit (letter_of dag report run task told) ≡ not (follows expanded d told)) (reasons_decide dag run seen before task) (digits_tell expanded (reason dag run seen before task) told)
