use Rattle.std.proofs.Common.{ℕ, List, ◌++◌, ◌∷◌, [], map, ap, ◌∙◌, sym}
use Rattle.bf_report.specs.declared.report.RunReport.{RunReport}
use Rattle.bf_grid.specs.GridRows.{column_of, column_state}
use Rattle.bf_grid.proofs.RowFacts.{by_column_more}
use Rattle.bf_grid.proofs.row.Columns.states.Goals as goal

pub loop-place-preserved : goal.loop-place-preserved
loop-place-preserved c =
    let place : ℕ = c.loop-place.place in
    let runs : List RunReport = map (λ run. run.now) c.args.self.runs.now in
    c.in_ok-push.ensures.items ∙ ap (λ mark. c.loop-place.marks.items ++ mark ∷ []) (c.worst_state_mark.ensures ∙ ap column_state c.at.ensures)
    ∙ ap (λ marks. marks ++ column_state (column_of c.args.self.each runs place) ∷ []) c.loop-place.invariant
    ∙ sym (by_column_more place c.args.self.each column_state runs)
