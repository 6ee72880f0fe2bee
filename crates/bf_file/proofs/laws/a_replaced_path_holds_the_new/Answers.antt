use Rattle.bf_file.proofs.Holding as holding
use Rattle.bf_file.proofs.laws.a_replaced_path_holds_the_new.Goals as goal

pub returns : goal.returns
returns c = holding.new_text
