use Rattle.bf_commands.proofs.OneList as lists
use Rattle.bf_commands.proofs.laws.listings_are_unique.Goals as goal

pub returns : goal.returns
returns c = lists.one_list
