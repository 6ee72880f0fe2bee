use Rattle.std.proofs.Common.{◌≡◌, ℕ, List, ◌++◌, OnOk, Bor, length, map, sym, ap, ap₂, ◌∙◌, subst}
use Rattle.std.specs.Int.{div_ceil}
use Rattle.std.proofs.lemmas.List.{length-map}
use Rattle.bf_report.specs.declared.report.RunReport.{RunReport}
use Rattle.bf_marks.specs.Widths.{widths_of}
use Rattle.bf_grid.specs.Grid.{table_by, table_text, table_with}
use Rattle.bf_grid.proofs.grid.ShownParts.push_table.Goals as goal

pub returns : goal.returns
returns c =
    let before : List ℕ = c.args.text.now.items in
    let view = c.args.view.now in
    let dag = c.args.self.dag.now in
    let tasks : List ℕ = c.args.self.tasks.now in
    let runs : List RunReport = map (λ run. run.now) c.args.self.runs.now in
    let names : ℕ = c.name_width-names.result in
    let widths = c.in_ok-widths.widths in
    let size : length c.args.self.runs.now ≡ length runs = sym (length-map c.args.self.runs.now (λ (run : Bor RunReport). run.now)) in
    let each = c.div_ceil-each.ensures ∙ ap₂ div_ceil size c.column_count_of.ensures.room in
    let sums = c.in_ok-widths.ensures ∙ ap₂ widths_of c.in_ok-total.ensures c.tally_of_shown_states.ensures in
    let whole : before ++ table_by view.colored dag runs tasks names widths c.div_ceil-each.result ≡ before ++ table_text view dag runs tasks =
    ap (λ n. before ++ table_by view.colored dag runs tasks names widths n) each ∙ ap₂ (λ n w. before ++ table_with view dag runs tasks n w) c.name_width-names.ensures.width sums in
    subst (λ (s : List ℕ). OnOk c.push_table_by.result (c.push_table_by.new.text.items ≡ s)) whole c.push_table_by.ensures
