-- The order of the rows, while it is found.
use Rattle.std.specs.Prelude.{◌≡◌, ℕ, true, List, ◌∷◌, ◌++◌, reverse, slice_set}
use Rattle.bf_plan.specs.declared.plan.Dag.{Dag}
use Rattle.bf_marks.specs.declared.row_order.Walk.{Walk}
use Rattle.bf_marks.specs.RowOrder.{is_let_go_in, tasks_where}

-- the next task stands in the order, and those that it let go come before what was left
pub record GoesOnBy (dag : Dag) (old new : Walk) (task : ℕ) : Type 0 where
  pub left : List ℕ
  pub was : reverse old.left.items ≡ task ∷ left
  pub stands : new.standing.items ≡ slice_set old.standing.items task true
  pub now : reverse new.left.items ≡ tasks_where dag (is_let_go_in dag new.standing.items task)
      ++ left
