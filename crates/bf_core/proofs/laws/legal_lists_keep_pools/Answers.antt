use Rattle.bf_core.proofs.Shape.{start_shapes}
use Rattle.bf_core.proofs.Pools.{legal_within, start_within}
use Rattle.bf_core.proofs.laws.legal_lists_keep_pools.Goals as goal

pub returns : goal.returns
returns c = λ dag limits runs events legal. legal_within dag limits runs _ events (start_shapes dag runs) (start_within dag limits runs) legal
