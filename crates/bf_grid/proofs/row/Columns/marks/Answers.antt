use Rattle.std.proofs.Common.{ℕ, List, ◌++◌, ◌∷◌, [], map, ap, ◌∙◌, sym}
use Rattle.bf_report.specs.declared.report.RunReport.{RunReport}
use Rattle.bf_marks.specs.CellMarks.{column_mark}
use Rattle.bf_grid.specs.GridRows.{column_of}
use Rattle.bf_grid.proofs.RowFacts.{by_column_more}
use Rattle.bf_grid.proofs.row.Columns.marks.Goals as goal

pub loop-place-preserved : goal.loop-place-preserved
loop-place-preserved c =
    let place : ℕ = c.loop-place.place in
    let mark = column_mark c.args.task in
    let runs : List RunReport = map (λ run. run.now) c.args.self.runs.now in
    c.in_ok-push.ensures.items ∙ ap (λ one. c.loop-place.marks.items ++ one ∷ []) (c.in_ok-mark_in.ensures ∙ ap mark c.at.ensures)
    ∙ ap (λ marks. marks ++ mark (column_of c.args.self.each runs place) ∷ []) c.loop-place.invariant
    ∙ sym (by_column_more place c.args.self.each mark runs)
