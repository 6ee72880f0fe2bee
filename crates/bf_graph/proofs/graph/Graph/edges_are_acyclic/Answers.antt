use Rattle.std.proofs.Common.{subst}
use Rattle.bf_graph.specs.Shape.{Shape}
use Rattle.bf_graph.specs.Edges.{IsAcyclic}
use Rattle.bf_graph.proofs.AcyclicLemmas.{no_cycle}
use Rattle.bf_graph.proofs.graph.Graph.edges_are_acyclic.Goals as goal

pub returns : goal.returns
returns c = let P : Shape → Type 0 = λ d. IsAcyclic d.upstreams in subst P c.self.view_is (no_cycle _ _ c.self.invariant.ranked)
