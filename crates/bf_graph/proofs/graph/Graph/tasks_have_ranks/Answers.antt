use Rattle.std.proofs.Common.{subst}
use Rattle.bf_graph.specs.Shape.{Shape}
use Rattle.bf_graph.specs.Ranks.{Ranking}
use Rattle.bf_graph.proofs.AcyclicLemmas.{ranking_of}
use Rattle.bf_graph.proofs.graph.Graph.tasks_have_ranks.Goals as goal

pub returns : goal.returns
returns c = let P : Shape → Type 0 = λ d. Ranking d.upstreams in subst P c.self.view_is (ranking_of _ _ c.self.invariant.ranked)
