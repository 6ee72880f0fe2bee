use Rattle.std.proofs.Common.{◌∙◌}
use Rattle.bf_journal.proofs.Pieces.{failed_said, skipped_said, success_said}
use Rattle.bf_journal.proofs.bare.bare_outcome_in.Goals as goal

pub returns-in-Some-clause-fields : goal.returns-in-Some-clause-fields
returns-in-Some-clause-fields c = c.in-Some.ensures ∙ success_said _

pub returns-in-Some-behind-clause-fields : goal.returns-in-Some-behind-clause-fields
returns-in-Some-behind-clause-fields c = c.in-Some-behind.ensures ∙ failed_said _

pub returns-clause-fields : goal.returns-clause-fields
returns-clause-fields c = c.in_ok-stamp.ensures ∙ skipped_said _
