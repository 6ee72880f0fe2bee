use Rattle.std.proofs.Common.{Vec, ℕ, Global, sym, ◌∙◌, subst}
use Rattle.std.specs.Result.{IfOk}
use Rattle.std.proofs.lemmas.List.{length-map}
use Rattle.std.proofs.lemmas.Result.{IfOk-weaker}
use Rattle.bf_graph.specs.Order.{IsByRank, StandBehind}
use Rattle.bf_graph.specs.Shape.{Shape}
use Rattle.bf_graph.proofs.OrderLemmas.{ordered}
use Rattle.bf_graph.proofs.graph.Graph.by_rank.Goals as goal

pub returns : goal.returns
returns c =
    let kept = c.self.invariant in
    let same = kept.one_rank_each ∙ sym (length-map c.self.inside.edges.items (λ (v : Vec ℕ Global). v.items)) in
    let P : Shape → Type 0 = λ d. IfOk c.tasks_of.result (λ tasks. IsByRank d.upstreams tasks.items × StandBehind d.upstreams tasks.items) in
    let both = subst P c.self.view_is (IfOk-weaker c.tasks_of.result _ _ (λ tasks is. ordered _ _ _ _ _ _ _ kept.ranked same c.as_slice.ensures.value c.in_ok-ranked.ensures c.sorted_by_rank-sorted.ensures.same c.sorted_by_rank-sorted.ensures.sorted c.as_slice-2.ensures.value is) c.tasks_of.ensures) in
    record {
      order = IfOk-weaker c.tasks_of.result _ _ (λ tasks w. w.0) both;
      behind = IfOk-weaker c.tasks_of.result _ _ (λ tasks w. w.1) both;
    }
