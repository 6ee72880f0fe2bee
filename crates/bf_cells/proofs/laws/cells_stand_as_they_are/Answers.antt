use Rattle.bf_cells.specs.Cells.{cells_text}
use Rattle.bf_cells.proofs.SafeFacts.{all_cells}
use Rattle.bf_cells.proofs.laws.cells_stand_as_they_are.Goals as goal

pub returns : goal.returns
returns c = λ dag report bytes id whole tasks runs small.
    c.cells_stand_as_they_are.ensures (cells_text dag report bytes) (all_cells (λ text is. (c.long_form_is_what_is_written.ensures text).1 is) dag report bytes id whole tasks runs small)
