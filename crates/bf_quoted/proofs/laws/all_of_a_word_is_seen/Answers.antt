use Rattle.bf_quoted.proofs.SeenFacts.{seen_word}
use Rattle.bf_quoted.proofs.laws.all_of_a_word_is_seen.Goals as goal

pub returns : goal.returns
returns c = seen_word
