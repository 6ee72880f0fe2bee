use Rattle.std.proofs.Common.{◌<◌, ℕ, Vec, Bool, Global, List, All, length, ap, sym, subst, arith}
use Rattle.std.specs.Result.{IfOk}
use Rattle.std.proofs.lemmas.List.{length-map}
use Rattle.std.proofs.lemmas.Result.{IfOk-weaker}
use Rattle.bf_graph.specs.Shape.{Shape}
use Rattle.bf_graph.specs.Reach.{Reaches}
use Rattle.bf_graph.specs.Lookups.{IsRisingListOf}
use Rattle.bf_graph.proofs.LookupLemmas.{descendants_listed, rows_wide}
use Rattle.bf_graph.proofs.graph.Graph.descendants.Goals as goal

pub column-requires : goal.column-requires
column-requires c =
    let edges = c.self.inside.edges.items in
    let tasks = ap (λ (d : Shape). length d.upstreams) c.self.view_is in
    let within : c.args.task < length edges = omega (arith, c.requires, tasks, length-map edges (λ (v : Vec ℕ Global). v.items)) in
    let P : List (Vec Bool Global) → Type 0 = λ vs. All (λ v. c.args.task < length v.items) vs in
    subst P (sym c.as_slice.ensures.value) (rows_wide edges c.self.inside.rows.items c.args.task c.self.invariant.reached within)

pub returns : goal.returns
returns c =
    let edges = c.self.inside.edges.items in
    let tasks = ap (λ (d : Shape). length d.upstreams) c.self.view_is in
    let within : c.args.task < length edges = omega (arith, c.requires, tasks, length-map edges (λ (v : Vec ℕ Global). v.items)) in
    let P : Shape → Type 0 = λ d. IfOk c.marked_places.result (λ tasks. IsRisingListOf (λ u. Reaches d.upstreams c.args.task u) tasks.items) in
    subst P c.self.view_is (IfOk-weaker c.marked_places.result _ _ (λ tasks is. descendants_listed edges c.self.inside.rows.items _ _ _ _ _ c.self.invariant.reached within c.as_slice.ensures.value c.in_ok-reached.ensures c.as_slice-2.ensures.value is) c.marked_places.ensures)
