use Rattle.std.proofs.Common.{◌≡◌, ℕ, List, ◌++◌, OnOk, codes, decimal, ap, ◌∙◌, subst}
use Rattle.bf_grid.specs.Summary.{many_line}
use Rattle.bf_grid.proofs.TextFacts.{three_in_a_row}
use Rattle.bf_grid.proofs.summary.push_runs_per_column_line.Goals as goal

pub returns : goal.returns
returns c =
    let before : List ℕ = c.args.text.now.items in
    let end : List ℕ = codes " runs, and shows the worst of them\n" in
    let number : c.push-2.new.text.items ≡ (before ++ codes "a column is ") ++ decimal c.args.each =
    c.in_ok-push-2.ensures ∙ ap (λ t. c.push.new.text.items ++ t) (c.as_bytes.ensures.value ∙ c.in_ok-number.ensures.ok) ∙ ap (λ t. t ++ decimal c.args.each) c.in_ok-push.ensures in
    let whole : c.push-2.new.text.items ++ end ≡ before ++ many_line c.args.each = ap (λ t. t ++ end) number ∙ three_in_a_row before (codes "a column is ") (decimal c.args.each) end in
    subst (λ (s : List ℕ). OnOk c.push-3.result (c.push-3.new.text.items ≡ s)) whole c.push-3.ensures
