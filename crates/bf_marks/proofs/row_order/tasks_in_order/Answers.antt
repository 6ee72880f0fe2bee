use Rattle.std.proofs.Common.{◌≡◌, ◌+◌, ◌-◌, ◌++◌, List, ℕ, suc, length, reverse, replicate, false, IfSome, ap, subst, arith}
use Rattle.std.proofs.lemmas.List.{length_push}
use Rattle.bf_marks.specs.RowOrder.{order_from, order_of, has_no_upstreams_in, tasks_where}
use Rattle.bf_marks.specs.inner.Walk.{GoesOnBy}
use Rattle.bf_marks.proofs.OrderFacts.{stood}
use Rattle.bf_marks.proofs.row_order.tasks_in_order.Goals as goal

pub loop-alloc-init : goal.loop-alloc-init
unfolding order_of
loop-alloc-init c =
    let dag = c.args.dag.now in
    let count : ℕ = length dag.tasks in
    let none : count - 0 ≡ count = omega arith in
    rw (c.in_ok-order.ensures.items, c.in_ok-walk.ensures.standing, c.in_ok-walk.ensures.left) (ap (λ n. order_from dag n (replicate count false) (tasks_where dag (has_no_upstreams_in dag))) none)

pub loop-alloc-preserved : goal.loop-alloc-preserved
loop-alloc-preserved c =
    let dag = c.args.dag.now in
    let before : List ℕ = c.loop-alloc.order.items in
    let task : ℕ = c.in-Some.task in
    let further : ℕ = length dag.tasks - (length before + 1) in
    let fuel : length dag.tasks - length before ≡ suc further = omega (arith, c.loop-alloc-test.true, c.len.ensures, c.len-count.ensures) in
    let goes : GoesOnBy dag c.loop-alloc.walk c.next.new.self task = subst (λ next. IfSome next (GoesOnBy dag c.loop-alloc.walk c.next.new.self)) c.in-Some.is c.in_ok-task.ensures.some in
    let so_far : before ++ order_from dag (length dag.tasks - length before) c.loop-alloc.walk.standing.items (reverse c.loop-alloc.walk.left.items) ≡ order_of dag = c.loop-alloc.invariant in
    let more = stood dag further c.loop-alloc.walk c.next.new.self before (order_of dag) task goes (rw fuel at so_far) in
    rw (c.in_ok-push-in-Some.ensures.items, length_push before task) more
