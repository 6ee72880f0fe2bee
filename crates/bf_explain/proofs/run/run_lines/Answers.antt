use Rattle.std.proofs.Common.{ℕ, List, [], ◌∷◌, ◌++◌, codes, ap, ◌∙◌}
use Rattle.bf_report.specs.declared.report.TaskReport.{TaskReport}
use Rattle.bf_explain.specs.Beside.{task_lines_of}
use Rattle.bf_explain.specs.Runs.{counts_lines_of, failed_tasks_of, run_heading_of, run_why_lines_of, tasks_not_tried_of}
use Rattle.bf_explain.specs.Sections.{section}
use Rattle.bf_explain.proofs.run.run_lines.Goals as goal

pub returns : goal.returns
returns c =
    let dag = c.args.plan.now.dag in let order = c.args.order.now in let settled = c.args.settled.now in
    let same = c.requires.tasks in
    let failed : List TaskReport → List (List ℕ) = λ tasks. section (codes "failed") (task_lines_of dag tasks (failed_tasks_of tasks order)) in
    let left : List TaskReport → List (List ℕ) = λ tasks. section (codes "not tried") (task_lines_of dag tasks (tasks_not_tried_of tasks order)) in
    let first = c.in_ok-lines.ensures ∙ ap (λ (line : List ℕ). line ∷ []) c.in_ok-run_heading.ensures in
    let why = c.as_slice.ensures.value ∙ (c.in_ok-why.ensures ∙ ap (λ (tasks : List TaskReport). run_why_lines_of dag c.args.run.now.state tasks order) same) in
    let counts = c.as_slice-2.ensures.value ∙ (c.in_ok-counts.ensures ∙ ap (λ (tasks : List TaskReport). counts_lines_of tasks order) same) in
    c.in_ok-add_not_tried.ensures
    ∙ ap (λ (ls : List (List ℕ)). ls ++ left settled) (c.in_ok-add_failed.ensures
    ∙ ap (λ (ls : List (List ℕ)). ls ++ failed settled) (c.in_ok-add_section-2.ensures
    ∙ ap (λ (ls : List (List ℕ)). ls ++ section (codes "task instances") c.as_slice-2.result.now) (c.in_ok-add_section.ensures
    ∙ ap (λ (ls : List (List ℕ)). ls ++ section (codes "why") c.as_slice.result.now) first)))
    ∙ (λ i. (((run_heading_of c.args.run.now ∷ [] ++ section (codes "why") (why i)) ++ section (codes "task instances") (counts i)) ++ failed (same i)) ++ left (same i))
