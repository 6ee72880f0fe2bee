-- The parts of a text.
use Rattle.std.proofs.Common.{◌≡◌, ℕ, Bool, false, List, [], ◌∷◌, ap, ◌∙◌, sym, subst, inl, inr}
use Rattle.std.specs.List.{slice_split, onto_first}
use Rattle.std.proofs.lemmas.Bool.{cases_Bool}
use Rattle.std.proofs.lemmas.List.Splits.{slice_split_none, slice_split_at, slice_split-cons_yes, slice_split-cons_no}
use Rattle.std.proofs.lemmas.List.Elements.{All-cons, All-nil}
use Rattle.bf_cron.specs.Grammar.{AreParts, last, next}

-- the parts are those that `split` gives
pub parts_are : (p : ℕ → Bool) (text : List ℕ) (parts : List (List ℕ)) → AreParts p text parts → slice_split p text ≡ parts
parts_are p text parts (last t lacks) = slice_split_none p t lacks
parts_are p text parts (next t c rest others lacks at w) = slice_split_at p t c rest lacks at ∙ ap (λ l. t ∷ l) (parts_are p rest others w)

onto : (p : ℕ → Bool) (c : ℕ) (text : List ℕ) (parts : List (List ℕ)) → p c ≡ false → AreParts p text parts → AreParts p (c ∷ text) (onto_first c parts)
onto p c text parts off (last t lacks) = last (c ∷ t) (All-cons (λ x. p x ≡ false) c t off lacks)
onto p c text parts off (next t d rest others lacks at w) = next (c ∷ t) d rest others (All-cons (λ x. p x ≡ false) c t off lacks) at w

-- what `split` gives are the parts
pub split_is : (p : ℕ → Bool) (text : List ℕ) → AreParts p text (slice_split p text)
split_is p [] = last [] (All-nil (λ x. p x ≡ false))
split_is p (c ∷ text) = elim (cases_Bool (p c)) as (λ _. AreParts p (c ∷ text) (slice_split p (c ∷ text))) [
  | inl on ↦ subst (AreParts p (c ∷ text)) (sym (slice_split-cons_yes p c text on)) (next [] c text (slice_split p text) (All-nil (λ x. p x ≡ false)) on (split_is p text))
  | inr off ↦ subst (AreParts p (c ∷ text)) (sym (slice_split-cons_no p c text off)) (onto p c text (slice_split p text) off (split_is p text))
]
