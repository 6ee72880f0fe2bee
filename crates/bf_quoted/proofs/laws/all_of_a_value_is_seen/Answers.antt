use Rattle.bf_quoted.proofs.SeenFacts.{seen_value}
use Rattle.bf_quoted.proofs.laws.all_of_a_value_is_seen.Goals as goal

pub returns : goal.returns
returns c = seen_value
