use Rattle.std.proofs.Common.{◌≡◌, List, ℕ, ℤ, Option, Some, ap, ◌∙◌, sym, subst}
use Rattle.std.specs.Option.{option_map}
use Rattle.bf_seeds.specs.Seeds.{split_at_space_of, SpellsTask}
use Rattle.bf_seeds.proofs.Lines.{if_none}
use Rattle.bf_seeds.proofs.line.task_in.Goals as goal

pub returns-in_err-index-in-Some-clause-none : goal.returns-in_err-index-in-Some-clause-none
returns-in_err-index-in-Some-clause-none c =
    let text = c.args.text.now in
    let is : split_at_space_of text ≡ Some (c.in-Some.task.now, c.in-Some.index.now) = sym c.split_at_space.ensures ∙ ap (option_map (λ p. (p.0.now, p.1.now))) c.in-Some.is in
    let P : Type 0 = (task : List ℕ) (index : Option ℤ) → SpellsTask text (split_at_space_of text) task index → ⊥ in
    if_none {P = P} c.from_residual.result (λ task index s.
    (let t : _ = subst (λ (o : Option (List ℕ × List ℕ)). SpellsTask text o task index) is s in c.in_err-index-in-Some.ensures.none t.2.0 t.2.2))
