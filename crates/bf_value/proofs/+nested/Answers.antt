use Rattle.std.proofs.Common.{◌≤◌, refl, ap, ◌∙◌, subst, arith}
use Rattle.bf_value.specs.Plain.{Plains, plains_depth}
use Rattle.bf_value.specs.Views.{plains_of}
use Rattle.bf_value.proofs.LineLemmas.{above_zero}
use Rattle.bf_value.proofs.SizeLemmas.{all_below}
use Rattle.bf_value.proofs.+nested.Goals as goal

pub size::are_nested_within-returns-then-deepest-eq0 :
    goal.size::are_nested_within-returns-then-deepest-eq0
size::are_nested_within-returns-then-deepest-eq0 t c = (λ e. cc, λ h. absurd (omega (arith, above_zero c.args.values.now)))

pub size::are_nested_within-returns : goal.size::are_nested_within-returns
size::are_nested_within-returns t c =
    let P : Plains → Type 0 = λ ps. plains_depth ps ≤ c.args.deepest in
    let seen = ap plains_of c.deref-item-items.ensures.value ∙ c.values.view_is in
    let within = all_below c.deref-item-items.result.now c.args.deepest (omega arith) (λ i d h. c.loop-item.invariant i d (omega arith)) in
    (λ _. subst P seen within, λ _. refl)
