use Rattle.std.proofs.Common.{◌++◌, List, ℕ, reverse, ap, ◌∙◌}
use Rattle.bf_marks.specs.RowOrder.{is_let_go_in, tasks_where}
use Rattle.bf_marks.proofs.OrderFacts.{piled, popped}
use Rattle.bf_marks.proofs.row_order.Walk.next.Goals as goal

pub returns-clause-some : goal.returns-clause-some
returns-clause-some c =
    let left : List ℕ = c.pop.new.self.items in
    let more : List ℕ = c.in_ok-more.more.items in
    record {
      left = reverse left;
      was = ap reverse c.in-Some.ensures.items ∙ popped left c.in-Some.task;
      stands = c.mark_standing.ensures;
      now =
          ap reverse (c.in_ok-extend_from_slice.ensures.items ∙ ap (λ xs. left ++ xs) (c.as_slice-2.ensures.value ∙ c.reverse.ensures.items))
          ∙ piled left more
          ∙ ap (λ xs. xs ++ reverse left) (c.in_ok-more.ensures ∙ ap (λ standing. tasks_where c.args.dag.now (is_let_go_in c.args.dag.now standing c.in-Some.task)) c.as_slice.ensures.value);
    }
