use Rattle.std.proofs.Common.{◌≡◌}
use Rattle.bf_core.specs.Events.{undecided_cells_of}
use Rattle.bf_core.proofs.state.undecided_cells.Given as goal

abbrev pub invariant-loop-task : goal.invariant-loop-task
invariant-loop-task l = l.cells.items ≡ undecided_cells_of l._task
