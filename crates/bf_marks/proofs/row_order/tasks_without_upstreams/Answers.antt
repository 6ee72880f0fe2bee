use Rattle.std.proofs.Common.{sym, ap, ◌∙◌, ◌++◌, ◌∷◌, []}
use Rattle.bf_marks.specs.RowOrder.{has_no_upstreams_in}
use Rattle.bf_marks.proofs.OrderFacts.{one_kept, none_kept}
use Rattle.bf_marks.proofs.row_order.tasks_without_upstreams.Goals as goal
use Rattle.bf_marks.proofs.row_order.tasks_without_upstreams.Goals.{then-has_no_upstreams+in_ok-push, else-has_no_upstreams}

pub loop-task-preserved : goal.loop-task-preserved
loop-task-preserved c =
    let p = has_no_upstreams_in c.args.dag.now in
    let n = c.loop-task.task in
    elim c.if-has_no_upstreams.branch [
      | then-has_no_upstreams+in_ok-push w ↦ ap (λ v. v.items) w.found-is ∙ w.in_ok-push.ensures.items ∙ ap (λ xs. xs ++ n ∷ []) c.loop-task.invariant ∙ sym (one_kept p n (sym c.has_no_upstreams.ensures ∙ w.if-has_no_upstreams.true))
      | else-has_no_upstreams w ↦ ap (λ v. v.items) w.found-is ∙ c.loop-task.invariant ∙ sym (none_kept p n (sym c.has_no_upstreams.ensures ∙ w.if-has_no_upstreams.false))
    ]
