-- The runs of a report, as rows of cells are written.
use Rattle.std.specs.Prelude.{ℕ, List, [], ◌∷◌, Option, None, Some}
use Rattle.bf_report.specs.declared.report.TaskReport.{TaskReport}
use Rattle.bf_cells.specs.Cells.{instances_word}

-- a word behind the others, where the task has one
abbrev pub behind : Option (List ℕ) → List ℕ
behind None = []
behind (Some word) = 32 ∷ word

abbrev pub word_behind : TaskReport → List ℕ
word_behind task = behind (instances_word task)
