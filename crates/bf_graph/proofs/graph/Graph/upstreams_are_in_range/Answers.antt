use Rattle.std.proofs.Common.{subst}
use Rattle.bf_graph.specs.Shape.{Shape}
use Rattle.bf_graph.specs.Edges.{AreInRange}
use Rattle.bf_graph.proofs.graph.Graph.upstreams_are_in_range.Goals as goal

pub returns : goal.returns
returns c = let P : Shape → Type 0 = λ d. AreInRange d.upstreams in subst P c.self.view_is c.self.invariant.ranked.in_range
