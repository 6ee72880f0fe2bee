use Rattle.bf_pool.proofs.WeightFacts.{reach_test, reach_path}
use Rattle.bf_pool.proofs.laws.reaches_where_a_path_leads.Goals as goal

pub returns : goal.returns
returns c = λ upstreams ranking from to. (reach_path upstreams from to, reach_test upstreams ranking from to)
