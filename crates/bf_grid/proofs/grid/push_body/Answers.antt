use Rattle.std.proofs.Common.{◌≡◌, ℕ, List, ◌++◌, OnOk, Bor, length, map, sym, ap, ap₂, ◌∙◌, subst, append_assoc}
use Rattle.std.proofs.lemmas.List.{length-map}
use Rattle.bf_report.specs.declared.report.RunReport.{RunReport}
use Rattle.bf_grid.specs.Selection.{shown_runs_of, shown_tasks_of}
use Rattle.bf_marks.specs.RowOrder.{order_of}
use Rattle.bf_grid.specs.Grid.{body_text, table_if}
use Rattle.bf_grid.specs.Summary.{left_out_line}
use Rattle.bf_grid.proofs.grid.push_body.Goals as goal

pub returns : goal.returns
returns c =
    let before : List ℕ = c.args.text.now.items in
    let view = c.args.view.now in
    let dag = c.args.dag.now in
    let all : List RunReport = c.args.all.now in
    let runs : List RunReport = shown_runs_of view all in
    let tasks : List ℕ = shown_tasks_of view runs (order_of dag) in
    let read : List (Bor RunReport) → List RunReport = λ rs. map (λ run. run.now) rs in
    let runs_are : read c.as_slice-3.result.now ≡ runs = ap read c.as_slice-3.ensures.value ∙ c.in_ok-runs.ensures in
    let read_before : read c.as_slice.result.now ≡ runs = ap read c.as_slice.ensures.value ∙ c.in_ok-runs.ensures in
    let order = c.as_slice-2.ensures.value ∙ c.in_ok-order.ensures in
    let found : c.in_ok-tasks.tasks.items ≡ tasks = c.in_ok-tasks.ensures ∙ ap₂ (shown_tasks_of view) read_before order in
    let tasks_are : c.as_slice-4.result.now ≡ tasks = c.as_slice-4.ensures.value ∙ found in
    let how_many_runs : c.len.result ≡ length runs =
    c.len.ensures ∙ c.in_ok-runs.runs.ok.0 ∙ sym (length-map c.in_ok-runs.runs.items (λ (run : Bor RunReport). run.now)) ∙ ap length c.in_ok-runs.ensures in
    let how_many_tasks : c.len-2.result ≡ length tasks = c.len-2.ensures ∙ c.in_ok-tasks.tasks.ok.0 ∙ ap length found in
    let table : List ℕ = table_if view dag (read c.as_slice-3.result.now) c.as_slice-4.result.now in
    let whole : c.push_left_out.new.text.items ++ table ≡ before ++ body_text view dag all =
    ap (λ t. t ++ table) c.in_ok-push_left_out.ensures
    ∙ append_assoc before (left_out_line c.len.result (length all) c.len-2.result c.len-3.result) table
    ∙ ap₂ (λ n m. before ++ (left_out_line n (length all) m c.len-3.result ++ table)) how_many_runs how_many_tasks
    ∙ ap (λ n. before ++ (left_out_line (length runs) (length all) (length tasks) n ++ table)) c.len-3.ensures
    ∙ ap₂ (λ rs ts. before ++ (left_out_line (length runs) (length all) (length tasks) (length dag.tasks) ++ table_if view dag rs ts)) runs_are tasks_are in
    subst (λ (s : List ℕ). OnOk c.push_table_if_runs.result (c.push_table_if_runs.new.text.items ≡ s)) whole c.push_table_if_runs.ensures
