use Rattle.bf_program.proofs.OwnPages.{no_digit_shown}
use Rattle.bf_program.proofs.laws.own_pages_have_no_digit.Goals as goal

pub returns : goal.returns
returns c = no_digit_shown c.own_letters_have_no_digit.ensures
