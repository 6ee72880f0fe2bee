use Rattle.std.proofs.Common.{◌≡◌, ◌↔◌, ◌<◌, length, Vec, Global, ℕ, true, ap, subst, arith}
use Rattle.std.proofs.lemmas.List.{length-map}
use Rattle.bf_graph.specs.Shape.{Shape}
use Rattle.bf_graph.specs.Reach.{Reaches}
use Rattle.bf_graph.proofs.ReachLemmas.{mark_means, row_len}
use Rattle.bf_graph.proofs.graph.Graph.reaches.Goals as goal

pub index-requires-2 : goal.index-requires-2
index-requires-2 c =
    let edges = c.self.inside.edges.items in
    let tasks = ap (λ (d : Shape). length d.upstreams) c.self.view_is in
    let all = length-map edges (λ (v : Vec ℕ Global). v.items) in
    let to : c.args.to < length edges = omega (arith, c.requires.to, tasks, all) in
    let wide = row_len _ _ c.self.inside.rows.items _ _ c.self.invariant.reached to c.index.ensures in
    omega (arith, c.requires.from, tasks, all, wide, c.index.result.now.ok)

pub returns : goal.returns
returns c =
    let edges = c.self.inside.edges.items in
    let tasks = ap (λ (d : Shape). length d.upstreams) c.self.view_is in
    let all = length-map edges (λ (v : Vec ℕ Global). v.items) in
    let from : c.args.from < length edges = omega (arith, c.requires.from, tasks, all) in
    let to : c.args.to < length edges = omega (arith, c.requires.to, tasks, all) in
    let P : Shape → Type 0 = λ d. (c.index-2.result.now ≡ true) ↔ Reaches d.upstreams c.args.from c.args.to in
    subst P c.self.view_is (mark_means _ _ c.self.inside.rows.items _ _ _ _ c.self.invariant.reached from to c.index.ensures c.index-2.ensures)
