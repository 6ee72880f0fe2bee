use Rattle.std.proofs.Common.{ℕ, List, ◌++◌, ◌∷◌, [], ◌*◌, map, slice_get, sym, ap, ◌∙◌}
use Rattle.std.proofs.lemmas.List.{map_push}
use Rattle.bf_moment.specs.declared.moment.Moment.{Moment}
use Rattle.bf_report.specs.declared.report.RunReport.{RunReport}
use Rattle.bf_grid.specs.Grid.{start_or}
use Rattle.bf_marks.proofs.LabelFacts.{moments}
use Rattle.bf_grid.proofs.RowFacts.{starts_more}
use Rattle.bf_grid.proofs.row.Columns.starts.Goals as goal

pub loop-place-preserved : goal.loop-place-preserved
loop-place-preserved c =
    let place : ℕ = c.loop-place.place in
    let each = c.args.self.each in
    let runs : List RunReport = map (λ run. run.now) c.args.self.runs.now in
    let starts = c.loop-place.starts.items in
    ap moments c.in_ok-push.ensures.items ∙ map_push (λ (start : Moment). start.at.nanosecond) starts c.start.result ∙ ap (λ n. moments starts ++ n ∷ []) c.start.ensures
    ∙ ap (λ ns. ns ++ start_or (slice_get runs (place * each)) ∷ []) c.loop-place.invariant ∙ sym (starts_more place each runs)
