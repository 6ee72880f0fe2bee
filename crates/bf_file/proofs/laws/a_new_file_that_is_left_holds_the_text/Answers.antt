use Rattle.bf_file.proofs.Holding as holding
use Rattle.bf_file.proofs.laws.a_new_file_that_is_left_holds_the_text.Goals as goal

pub returns : goal.returns
returns c = holding.left_whole
