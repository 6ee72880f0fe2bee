use Rattle.bf_dependents.proofs.Listed.{listed_right}
use Rattle.bf_dependents.proofs.laws.places_are_what_follows.Goals as goal

pub returns : goal.returns
returns c = listed_right
