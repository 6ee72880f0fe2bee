use Rattle.std.proofs.Common.{◌≡◌, ℕ, ℤ, List, [], ◌∷◌, ◌++◌, OnOk, codes, map, ap, ap₂, ◌∙◌, subst}
use Rattle.std.specs.List.{flat_map}
use Rattle.bf_report.specs.declared.report.RunReport.{RunReport}
use Rattle.bf_marks.specs.Labels.{scale_of}
use Rattle.bf_grid.specs.GridRows.{by_column, column_state, row}
use Rattle.bf_grid.specs.Grid.{column_starts, label_lines, rows_text, task_row}
use Rattle.bf_marks.specs.Tallies.{states_tally}
use Rattle.bf_grid.specs.Legend.{legend_of}
use Rattle.bf_marks.proofs.LabelFacts.{moments}
use Rattle.bf_grid.proofs.TextFacts.{table_in_a_row}
use Rattle.bf_grid.proofs.grid_table.Table.push.Goals as goal

pub returns : goal.returns
returns c =
    let before : List ℕ = c.args.text.now.items in
    let names : ℕ = c.args.self.layout.names in
    let widths = c.args.self.layout.widths in
    let colored = c.args.self.layout.colored in
    let dag = c.args.self.dag.now in
    let count : ℕ = c.args.self.columns.count in
    let each : ℕ = c.args.self.columns.each in
    let tasks : List ℕ = c.args.self.tasks.now in
    let runs : List RunReport = map (λ run. run.now) c.args.self.columns.runs.now in
    let starts : List ℤ = column_starts count each runs in
    let labels : List ℕ = label_lines names widths (scale_of starts) starts in
    let first : List ℕ = row names widths colored (codes "run") (by_column count each column_state runs) (states_tally runs) in
    let others : List ℕ = flat_map (task_row names widths colored dag count each runs) tasks in
    let end : List ℕ = legend_of colored runs tasks in
    let one : c.push_labels.new.text.items ≡ before ++ labels =
    c.in_ok-push_labels.ensures ∙ ap (λ ss. before ++ label_lines names widths (scale_of ss) ss) (ap moments c.as_slice.ensures.value ∙ c.in_ok-starts.ensures) in
    let two : c.push_row.new.text.items ≡ (before ++ labels) ++ first =
    c.in_ok-push_row.ensures ∙ ap₂ (λ marks sums. c.push_labels.new.text.items ++ row names widths colored (codes "run") marks sums) (c.as_slice-2.ensures.value ∙ c.in_ok-states.ensures) c.tally_of_shown_states-tally.ensures
    ∙ ap (λ t. t ++ first) one in
    let three : c.push_tasks.new.text.items ≡ ((before ++ labels) ++ first) ++ others = c.in_ok-push_tasks.ensures ∙ ap (λ t. t ++ others) two in
    let whole : c.push_tasks.new.text.items ++ end ≡ before ++ rows_text names widths colored dag count each runs tasks = ap (λ t. t ++ end) three ∙ table_in_a_row before labels first others end in
    subst (λ (s : List ℕ). OnOk c.push_legend.result (c.push_legend.new.text.items ≡ s)) whole c.push_legend.ensures
