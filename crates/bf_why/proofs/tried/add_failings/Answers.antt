use Rattle.std.proofs.Common.{ℕ, Bool, if◌then◌else◌, List, [], ◌∷◌, ◌++◌, codes, ap, ◌∙◌, append_assoc}
use Rattle.bf_core.specs.Terms.{is_branch_in, task_of}
use Rattle.bf_try.specs.Grades.{gives_items_in}
use Rattle.bf_why.proofs.tried.add_failings.Goals as goal

pub returns : goal.returns
returns c =
    let lines = c.args.lines.now.items in
    let line : Bool → List ℕ → List (List ℕ) = λ holds text. if holds then text ∷ [] else [] in
    let branch : List ℕ = codes "A branch fails, too, where what it pushes names a task that isn't directly downstream of it." in
    let source : List ℕ = codes "It fails, too, where it doesn't push a list of 0 to 1,024 items, since a task is expanded over it." in
    let not_told : List ℕ = codes "Why a try failed isn't in a report: what its program wrote to standard error says it." in
    c.in_ok-add_line.ensures
    ∙ ap (λ ls. ls ++ not_told ∷ []) (c.in_ok-add_line_if-2.ensures ∙ ap (λ ls. ls ++ line c.gives_items.result source) c.in_ok-add_line_if.ensures)
    ∙ (λ i. ((lines ++ line (c.is_branch.ensures i) branch) ++ line (c.gives_items.ensures i) source) ++ not_told ∷ [])
    ∙ append_assoc (lines ++ line (is_branch_in (task_of c.args.dag.now c.args.task)) branch) (line (gives_items_in c.args.dag.now c.args.task) source) (not_told ∷ [])
    ∙ append_assoc lines (line (is_branch_in (task_of c.args.dag.now c.args.task)) branch) (line (gives_items_in c.args.dag.now c.args.task) source ++ not_told ∷ [])
