use Rattle.std.proofs.Common.{◌≡◌, ℕ, List, [], Bor, get_or, take, map, ap, sym, ◌∙◌, subst}
use Rattle.bf_findings.specs.Nearest.{changes_of, lowered}
use Rattle.bf_findings.specs.inner.Nearest.{IsBest}
use Rattle.bf_findings.proofs.Nearness.{one_more}
use Rattle.bf_findings.proofs.nearest.nearest.Goals as goal

pub loop-name-preserved : goal.loop-name-preserved
loop-name-preserved c = λ text is.
    let names = c.args.names.now in
    let i = c.loop-name.name-index in
    let none : Bor (List ℕ) = record { ref_ptr = (0, 0); now = [] } in
    let P : List (List ℕ) → Type 0 = λ ns. IsBest text ns c.better-best.result in
    let changes = ap (λ cs. changes_of cs (lowered (get_or names i none).now)) (sym is) ∙ sym c.in_ok-changes_to_name.ensures in
    subst P (sym (one_more names i none c.loop-name-test.true)) (c.better-best.ensures text (map (λ s. s.now) (take i names)) (c.loop-name.invariant text is) changes)
