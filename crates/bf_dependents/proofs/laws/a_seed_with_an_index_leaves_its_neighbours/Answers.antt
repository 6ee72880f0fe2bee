use Rattle.bf_dependents.proofs.Neighbours.{neighbours_stay}
use Rattle.bf_dependents.proofs.laws.a_seed_with_an_index_leaves_its_neighbours.Goals as goal

pub returns : goal.returns
returns c = neighbours_stay
