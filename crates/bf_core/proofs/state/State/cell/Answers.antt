use Rattle.std.proofs.Common.{◌≡◌, ◌<◌, ◌↔◌, ℕ, List, length, IsSome, refl, Option, Some, None, IfSome, IfNone, Bor, slice_get, slice_index_or, option_copied, sym, ap, ◌∙◌}
use Rattle.bf_core.specs.Terms.{Cell, Run}
use Rattle.bf_core.specs.Events.{cell_in, row_of, no_run}
use Rattle.bf_core.proofs.Placing.{read_row, read_none, some_below, below_some}
use Rattle.bf_core.proofs.state.State.cell.Goals as goal

-- what is got at a place of a row is the cell there
cell-got : (runs : List Run) (k t : ℕ) (row : Run) (o : Option (Bor Cell)) → slice_get runs k ≡ Some row → option_copied o ≡ slice_get row.cells t →
    IfSome o (λ c. c.now ≡ cell_in runs k t)
unfolding cell_in
cell-got runs k t row None at got = tt
cell-got runs k t row (Some c) at got =
    let same : slice_index_or runs k no_run ≡ row = read_row runs k row no_run at in
    sym (ap (λ r. slice_index_or r.cells t Cell.Undecided) same ∙ read_row row.cells t c.now Cell.Undecided (sym got))

pub returns-in-Some-clause-cell : goal.returns-in-Some-clause-cell
returns-in-Some-clause-cell c = cell-got _ c.args.run c.args.task c.in-Some.row.now c.get-in-Some.result (sym (c.in-Some.ensures {u = tt})) c.get-in-Some.ensures

-- nothing is got where there is no cell
cell-not : (runs : List Run) (k t : ℕ) (row : Run) (o : Option (Bor Cell)) → slice_get runs k ≡ Some row → option_copied o ≡ slice_get row.cells t →
    IfNone o (cell_in runs k t ≡ Cell.Undecided)
unfolding cell_in
cell-not runs k t row (Some c) at got = tt
cell-not runs k t row None at got =
    let same : slice_index_or runs k no_run ≡ row = read_row runs k row no_run at in
    ap (λ r. slice_index_or r.cells t Cell.Undecided) same ∙ read_none row.cells t Cell.Undecided (sym got)

row-not : (runs : List Run) (k t : ℕ) → slice_get runs k ≡ None → cell_in runs k t ≡ Cell.Undecided
unfolding cell_in
row-not runs k t e = ap (λ r. slice_index_or r.cells t Cell.Undecided) (read_none runs k no_run e)

pub returns-in-Some-clause-none : goal.returns-in-Some-clause-none
returns-in-Some-clause-none c = cell-not _ c.args.run c.args.task c.in-Some.row.now c.get-in-Some.result (sym (c.in-Some.ensures {u = tt})) c.get-in-Some.ensures

-- it is there exactly where its row and its place are
cell-there : (runs : List Run) (k t : ℕ) (row : Run) (o : Option (Bor Cell)) → slice_get runs k ≡ Some row → option_copied o ≡ slice_get row.cells t →
    IsSome o ↔ ((k < length runs) × (t < length (row_of runs k).cells))
cell-there runs k t row o at got =
    let same : row_of runs k ≡ row = read_row runs k row no_run at in (
      λ some. (some_below runs k (rw at), rw same (some_below row.cells t (rw (← got) (copied o some)))),
      λ p. back o (rw got (below_some row.cells t (rw same at p.1))),
    )
  where
    copied : (o : Option (Bor Cell)) → IsSome o → IsSome (option_copied o)
    copied None h = h
    copied (Some x) h = refl

    back : (o : Option (Bor Cell)) → IsSome (option_copied o) → IsSome o
    back None h = h
    back (Some x) h = refl

pub returns-in-Some-clause-there : goal.returns-in-Some-clause-there
returns-in-Some-clause-there c = cell-there _ c.args.run c.args.task c.in-Some.row.now c.get-in-Some.result (sym (c.in-Some.ensures {u = tt})) c.get-in-Some.ensures

pub returns-in-None-clause-none : goal.returns-in-None-clause-none
returns-in-None-clause-none c = row-not _ c.args.run c.args.task (sym c.in-None.ensures)
