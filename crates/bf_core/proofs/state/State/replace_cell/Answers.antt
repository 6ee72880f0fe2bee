use Rattle.std.proofs.Common.{◌≡◌, ◌<◌, ℕ, List, length, slice_index_or, slice_get, slice_set, Some, ap, sym, ◌∙◌}
use Rattle.bf_core.specs.Terms.{Run, Cell}
use Rattle.bf_core.specs.Events.{cell_in, put_in, no_run}
use Rattle.bf_core.proofs.Placing.{read_row, any_default, with_runs}
use Rattle.bf_core.proofs.state.State.replace_cell.Goals as goal

cell-was : (runs : List Run) (k t : ℕ) (row : Run) (c : Cell) → k < length runs → row ≡ slice_index_or runs k row → slice_get row.cells t ≡ Some c → c ≡ cell_in runs k t
unfolding cell_in
cell-was runs k t row c h e g =
    let same : row ≡ slice_index_or runs k no_run = e ∙ any_default runs k row no_run h in
    sym (read_row (slice_index_or runs k no_run).cells t c Cell.Undecided (rw same at g))

runs-now : (runs : List Run) (k t : ℕ) (row : Run) (c : Cell) (cells : List Cell) → k < length runs → row ≡ slice_index_or runs k row → cells ≡ slice_set row.cells t c →
    slice_set runs k (record { phase = row.phase; cells = cells }) ≡ put_in runs k t c
unfolding put_in
runs-now runs k t row c cells h e g =
    let same : row ≡ slice_index_or runs k no_run = e ∙ any_default runs k row no_run h in
    rw g (ap (λ r. slice_set runs k (record { phase = r.phase; cells = slice_set r.cells t c })) same)

pub returns-clause-was : goal.returns-clause-was
returns-clause-was c = rw (← c.self.view_is) (cell-was _ c.args.run c.args.task c.index_mut-row.result.now c.replace.result (rw (← c.self.view_is) at c.requires.run) c.index_mut-row.ensures.value c.replace.ensures.was)

pub returns-clause-now : goal.returns-clause-now
returns-clause-now c =
    (let same : _ = runs-now _ c.args.run c.args.task c.index_mut-row.result.now c.args.cell c.replace.new.self (rw (← c.self.view_is) at c.requires.run) c.index_mut-row.ensures.value c.replace.ensures.now in
    rw (← c.self.view_is) (with_runs _ _ _ same))
