use Rattle.std.proofs.Common.{◌<◌, ℕ, Vec, Global, length, ap, sym, subst, arith}
use Rattle.std.proofs.lemmas.List.{length-map}
use Rattle.bf_graph.specs.Shape.{Shape}
use Rattle.bf_graph.specs.Edges.{lists}
use Rattle.bf_graph.specs.Reach.{IsRow}
use Rattle.bf_graph.proofs.ReachLemmas.{row_of_task}
use Rattle.bf_graph.proofs.graph.Graph.reaching.Goals as goal

pub returns : goal.returns
returns c =
    let edges = c.self.inside.edges.items in
    let tasks = ap (λ (d : Shape). length d.upstreams) c.self.view_is in
    let all = length-map edges (λ (v : Vec ℕ Global). v.items) in
    let within : c.args.task < length edges = omega (arith, c.requires, tasks, all) in
    let row = row_of_task _ _ c.self.inside.rows.items _ _ _ c.self.invariant.reached within c.index.ensures c.as_slice.ensures.value in
    let P : Shape → Type 0 = λ d. IsRow d.upstreams (length d.upstreams) c.args.task c.as_slice.result.now in
    subst P c.self.view_is (subst (λ n. IsRow (lists edges) n c.args.task c.as_slice.result.now) (sym all) row)
