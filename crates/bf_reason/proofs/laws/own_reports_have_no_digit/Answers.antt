use Rattle.std.proofs.Common.{not, ap, ◌∙◌}
use Rattle.bf_reason.proofs.OwnReports.{own_follows}
use Rattle.bf_reason.proofs.laws.own_reports_have_no_digit.Goals as goal

pub returns : goal.returns
returns c = λ dag sound intervals ledger report dated run task told is.
    c.digits_tell_what_does_not_follow.ensures dag report run task told ∙ ap not (own_follows dag sound intervals ledger report dated run task told is)
