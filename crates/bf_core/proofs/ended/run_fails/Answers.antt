use Rattle.std.proofs.Common.{◌≡◌, ◌<◌, ℕ, Bool, true, length, slice_index_or, sym, ap, ◌∙◌, arith}
use Rattle.bf_core.specs.Terms.{Cell}
use Rattle.bf_core.specs.Recursion.{fails_run, is_leaf_in}
use Rattle.bf_core.specs.Events.{value_in}
use Rattle.bf_core.specs.inner.Events.{value_or_blocked}
use Rattle.bf_core.proofs.Closing.{any_at}
use Rattle.bf_core.proofs.Placing.{any_default}
use Rattle.bf_core.proofs.ended.run_fails.Goals as goal

pub returns-then-fails_its_run : goal.returns-then-fails_its_run
returns-then-fails_its_run c =
    let t : ℕ = c.loop-task.task in
    let within : t < length c.args.cells.now = c.loop-task-test.true in
    let cell : c.index-cells-task.result ≡ slice_index_or c.args.cells.now t Cell.Undecided = c.index-cells-task.is ∙ any_default c.args.cells.now t _ Cell.Undecided within in
    let p : ℕ → Bool = λ i. fails_run (is_leaf_in c.args.plan.now.dag i) (value_or_blocked (value_in (slice_index_or c.args.cells.now i Cell.Undecided))) in
    let is : p t ≡ true = sym (ap (λ x. fails_run (is_leaf_in c.args.plan.now.dag t) (value_or_blocked (value_in x))) cell) ∙ sym c.fails_its_run.ensures ∙ c.if-fails_its_run.true in
    sym (any_at (length c.args.plan.now.dag.tasks) t p (omega (arith, within, c.requires)) is)
