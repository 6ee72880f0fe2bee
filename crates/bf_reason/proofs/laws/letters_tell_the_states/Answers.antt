use Rattle.std.proofs.Common.{is_some}
use Rattle.bf_core.specs.Terms.{task_of}
use Rattle.bf_reason.specs.Reasons.{reason}
use Rattle.bf_reason.specs.Causes.{cause_of}
use Rattle.bf_reason.specs.Letters.{seen_at, before_at}
use Rattle.bf_reason.proofs.LetterFacts.{letter_told}
use Rattle.bf_reason.proofs.laws.letters_tell_the_states.Goals as goal

pub returns : goal.returns
returns c = λ dag report run task told. letter_told (is_some (task_of dag task).expand) (cause_of (reason dag run (seen_at report run) (before_at report run task) task)) told
