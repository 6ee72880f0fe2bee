-- The rows of the grid.
use Rattle.std.specs.Prelude.{ℕ, ◌*◌, Bool, List, [], ◌∷◌, ◌++◌, take, drop, map, fold, ◌==◌, ◌&&◌, if◌then◌else◌, length}
use Rattle.std.specs.List.{range_with_len}
use Rattle.bf_xcom.specs.declared.values.RunState.{RunState}
use Rattle.bf_report.specs.declared.report.RunReport.{RunReport}
use Rattle.bf_marks.specs.declared.widths.Widths.{Widths}
use Rattle.bf_marks.specs.declared.mark.Mark.{Mark}
use Rattle.bf_marks.specs.declared.mark.Mark.TheVariants.{Success, Failed, Skipped}
use Rattle.bf_marks.specs.declared.tally.Tally.{Tally}
use Rattle.bf_marks.specs.Widths.{cut_name, sums_text}
use Rattle.bf_marks.specs.Labels.{left}
use Rattle.bf_marks.specs.CellMarks.{marks_text, worse}

-- a line without the spaces at its end
abbrev pub trimmed_of : List ℕ → List ℕ
trimmed_of [] = []
trimmed_of (b ∷ bs) = if (b == 32) && (length (trimmed_of bs) == 0) then [] else b ∷ trimmed_of bs

-- a line ends behind its last character that isn't a space
abbrev pub line : List ℕ → List ℕ
line text = trimmed_of text ++ 10 ∷ []

-- the runs of the column in this place
abbrev pub column_of : ℕ → List RunReport → ℕ → List RunReport
column_of each runs place = take each (drop (place * each) runs)

-- of each of so many columns
abbrev pub by_column : ℕ → ℕ → (List RunReport → Mark) → List RunReport → List Mark
by_column count each mark runs =
    map (λ place. mark (column_of each runs place)) (range_with_len 0 count)

-- a run by its own state
abbrev pub state_mark_of : RunState → Mark
state_mark_of RunState.Success = Success
state_mark_of RunState.Failed = Failed

abbrev pub column_state : List RunReport → Mark
column_state runs = fold worse Skipped (map (λ run. state_mark_of run.state) runs)

-- a name, marks and sums
abbrev pub row : ℕ → Widths → Bool → List ℕ → List Mark → Tally → List ℕ
row names widths colored name marks tally =
    line (left names (cut_name names name)
    ++ (32 ∷ 32 ∷ (marks_text colored marks ++ (32 ∷ 32 ∷ sums_text widths tally))))
