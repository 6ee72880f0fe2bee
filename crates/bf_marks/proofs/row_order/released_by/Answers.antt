use Rattle.std.proofs.Common.{sym, ap, ◌∙◌, ◌++◌, ◌∷◌, []}
use Rattle.bf_marks.specs.RowOrder.{is_let_go_in}
use Rattle.bf_marks.proofs.OrderFacts.{one_kept, none_kept}
use Rattle.bf_marks.proofs.row_order.released_by.Goals as goal
use Rattle.bf_marks.proofs.row_order.released_by.Goals.{then-is_released+in_ok-push, else-is_released}

pub loop-other-preserved : goal.loop-other-preserved
loop-other-preserved c =
    let p = is_let_go_in c.args.dag.now c.args.standing.now c.args.task in
    let n = c.loop-other.other in
    elim c.if-is_released.branch [
      | then-is_released+in_ok-push w ↦ ap (λ v. v.items) w.found-is ∙ w.in_ok-push.ensures.items ∙ ap (λ xs. xs ++ n ∷ []) c.loop-other.invariant ∙ sym (one_kept p n (sym c.is_released.ensures ∙ w.if-is_released.true))
      | else-is_released w ↦ ap (λ v. v.items) w.found-is ∙ c.loop-other.invariant ∙ sym (none_kept p n (sym c.is_released.ensures ∙ w.if-is_released.false))
    ]
