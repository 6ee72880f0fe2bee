use Rattle.std.proofs.Common.{◌<◌, ℕ, Vec, Global, length, ap, sym, subst, arith}
use Rattle.std.proofs.lemmas.List.{length-map}
use Rattle.bf_graph.specs.Edges.{lists, IsUpstream}
use Rattle.bf_graph.specs.Shape.{Shape}
use Rattle.bf_graph.specs.Lookups.{IsRisingListOf}
use Rattle.bf_graph.proofs.RankLemmas.{upstreams_read}
use Rattle.bf_graph.proofs.graph.Graph.downstreams.Goals as goal

pub returns : goal.returns
returns c =
    let edges = c.self.inside.edges.items in
    let downs = c.self.inside.downstreams.items in
    let below = c.self.invariant.below in
    let tasks = ap (λ (d : Shape). length d.upstreams) c.self.view_is in
    let within : c.args.task < length (lists edges) = omega (arith, c.requires, tasks) in
    let size = below.len in
    let read = upstreams_read downs c.args.task _ _ (omega (arith, within, size, length-map downs (λ (v : Vec ℕ Global). v.items))) c.index.ensures c.as_slice.ensures.value in
    let P : Shape → Type 0 = λ d. IsRisingListOf (λ u. IsUpstream d.upstreams c.args.task u) c.as_slice.result.now in
    subst P c.self.view_is (subst (IsRisingListOf (λ u. IsUpstream (lists edges) c.args.task u)) (sym read) (below.each c.args.task within))
