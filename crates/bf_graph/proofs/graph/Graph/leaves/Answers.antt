use Rattle.std.proofs.Common.{sym, subst}
use Rattle.bf_graph.specs.Shape.{Shape}
use Rattle.bf_graph.specs.Lookups.{IsRisingListOf, IsLeaf}
use Rattle.bf_graph.proofs.graph.Graph.leaves.Goals as goal

pub returns : goal.returns
returns c =
    let P : Shape → Type 0 = λ d. IsRisingListOf (λ t. IsLeaf d.upstreams t) c.as_slice.result.now in
    subst P c.self.view_is (subst (IsRisingListOf (λ t. IsLeaf _ t)) (sym c.as_slice.ensures.value) c.self.invariant.right_leaves)
