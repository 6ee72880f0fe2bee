use Rattle.std.proofs.Common.{◌<◌, ℕ, Vec, Global, length, ap, subst, arith}
use Rattle.std.specs.Result.{IfOk}
use Rattle.std.proofs.lemmas.List.{length-map}
use Rattle.std.proofs.lemmas.Result.{IfOk-weaker}
use Rattle.bf_graph.specs.Shape.{Shape}
use Rattle.bf_graph.specs.Reach.{Reaches}
use Rattle.bf_graph.specs.Lookups.{IsRisingListOf}
use Rattle.bf_graph.proofs.ReachLemmas.{row_len}
use Rattle.bf_graph.proofs.LookupLemmas.{ancestors_listed}
use Rattle.bf_graph.proofs.graph.Graph.ancestors.Goals as goal

pub marked_places-requires : goal.marked_places-requires
marked_places-requires c =
    let edges = c.self.inside.edges.items in
    let tasks = ap (λ (d : Shape). length d.upstreams) c.self.view_is in
    let within : c.args.task < length edges = omega (arith, c.requires, tasks, length-map edges (λ (v : Vec ℕ Global). v.items)) in
    let few = c.self.invariant.few in
    omega (arith, few, row_len _ _ c.self.inside.rows.items _ _ c.self.invariant.reached within c.index.ensures, ap length c.as_slice.ensures.value)

pub returns : goal.returns
returns c =
    let edges = c.self.inside.edges.items in
    let tasks = ap (λ (d : Shape). length d.upstreams) c.self.view_is in
    let within : c.args.task < length edges = omega (arith, c.requires, tasks, length-map edges (λ (v : Vec ℕ Global). v.items)) in
    let P : Shape → Type 0 = λ d. IfOk c.marked_places.result (λ tasks. IsRisingListOf (λ a. Reaches d.upstreams a c.args.task) tasks.items) in
    subst P c.self.view_is (IfOk-weaker c.marked_places.result _ _ (λ tasks is. ancestors_listed edges c.self.inside.rows.items _ _ _ _ c.self.invariant.ranked.in_range c.self.invariant.reached within c.index.ensures c.as_slice.ensures.value is) c.marked_places.ensures)
