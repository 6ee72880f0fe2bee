use Rattle.std.proofs.Common.{sym, ap, ◌∙◌, ◌++◌, ◌∷◌, []}
use Rattle.bf_explain.specs.Tasks.{is_downstream_in}
use Rattle.bf_explain.proofs.IndexFacts.{one_kept, none_kept}
use Rattle.bf_explain.proofs.neighbours.downstreams.Goals as goal
use Rattle.bf_explain.proofs.neighbours.downstreams.Goals.{then-is_downstream+in_ok-push, else-is_downstream}

pub loop-other-preserved : goal.loop-other-preserved
loop-other-preserved c =
    let p = is_downstream_in c.args.plan.now.dag c.args.task in
    let n = c.loop-other.other in
    elim c.if-is_downstream.branch [
      | then-is_downstream+in_ok-push w ↦ ap (λ v. v.items) w.found-is ∙ w.in_ok-push.ensures.items ∙ ap (λ xs. xs ++ n ∷ []) c.loop-other.invariant ∙ sym (one_kept p n (sym c.is_downstream.ensures ∙ w.if-is_downstream.true))
      | else-is_downstream w ↦ ap (λ v. v.items) w.found-is ∙ c.loop-other.invariant ∙ sym (none_kept p n (sym c.is_downstream.ensures ∙ w.if-is_downstream.false))
    ]
