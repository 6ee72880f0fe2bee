-- The nearest of names, as they are met one after another.
use Rattle.std.proofs.Common.{◌≡◌, ℕ, ◌+◌, ◌<◌, ◌≤◌, List, [], ◌∷◌, ◌++◌, Bor, Option, Some, None, length, get_or, take, map, sym, ap, ◌∙◌, subst, arith, inl, inr, add-one}
use Rattle.std.specs.List.{Contains}
use Rattle.std.proofs.lemmas.List.{map-append}
use Rattle.std.proofs.lemmas.List.Elements.{Contains-append_left, Contains-push, Contains-push_cases}
use Rattle.std.proofs.Math.Seq.{take-suc}
use Rattle.bf_findings.specs.declared.nearest.Found.{Found}
use Rattle.bf_findings.specs.Nearest.{changes_to, IsNearest}
use Rattle.bf_findings.specs.inner.Nearest.{IsBest}

same_number : (m n : ℕ) → Some m ≡ Some n → m ≡ n
same_number m n e = cc

pub still_nearest : (text : List ℕ) (names : List (List ℕ)) (best other : List ℕ) (changes far : ℕ)
    → IsNearest text names best changes → changes_to text other ≡ Some far → changes ≤ far → IsNearest text (names ++ other ∷ []) best changes
still_nearest text names best other changes far is e less = record {
  known = Contains-append_left names (other ∷ []) best is.known;
  near = is.near;
  none_nearer = λ name much h to. elim (Contains-push_cases names other name h) as (λ _. changes ≤ much) [
    | inl before ↦ is.none_nearer name much before to
    | inr same ↦ let far_is = same_number far much (sym e ∙ ap (changes_to text) same ∙ to) in omega (arith, far_is, less)
  ];
}

pub now_nearest : (text : List ℕ) (names : List (List ℕ)) (best other : List ℕ) (changes far : ℕ)
    → IsNearest text names best changes → changes_to text other ≡ Some far → far < changes → IsNearest text (names ++ other ∷ []) other far
now_nearest text names best other changes far is e less = record {
  known = Contains-push names other;
  near = e;
  none_nearer = λ name much h to. elim (Contains-push_cases names other name h) as (λ _. far ≤ much) [
    | inl before ↦ omega (arith, is.none_nearer name much before to, less)
    | inr same ↦ let far_is = same_number far much (sym e ∙ ap (changes_to text) same ∙ to) in omega (arith, far_is)
  ];
}

none_some : {X : Type 0} (x : X) → None ≡ Some x → ⊥
none_some x e = cc

pub first_nearest : (text : List ℕ) (names : List (List ℕ)) (other : List ℕ) (far : ℕ) → ((name : List ℕ) → Contains names name → changes_to text name ≡ None)
    → changes_to text other ≡ Some far → IsNearest text (names ++ other ∷ []) other far
first_nearest text names other far none e = record {
  known = Contains-push names other;
  near = e;
  none_nearer = λ name much h to. elim (Contains-push_cases names other name h) as (λ _. far ≤ much) [
    | inl before ↦ absurd (none_some much (sym (none name before) ∙ to))
    | inr same ↦ let far_is = same_number far much (sym e ∙ ap (changes_to text) same ∙ to) in omega (arith, far_is)
  ];
}

-- one that isn't near
pub still_best : (text : List ℕ) (names : List (List ℕ)) (best : Option Found) (other : List ℕ) → IsBest text names best → changes_to text other ≡ None → IsBest text (names ++ other ∷ []) best
still_best text names None other is e = λ name h. elim (Contains-push_cases names other name h) as (λ _. changes_to text name ≡ None) [
  | inl before ↦ is name before
  | inr same ↦ sym (ap (changes_to text) same) ∙ e
]
still_best text names (Some found) other is e = record {
  known = Contains-append_left names (other ∷ []) found.name.now is.known;
  near = is.near;
  none_nearer = λ name much h to. elim (Contains-push_cases names other name h) as (λ _. found.changes ≤ much) [
    | inl before ↦ is.none_nearer name much before to
    | inr same ↦ absurd (none_some much (sym e ∙ ap (changes_to text) same ∙ to))
  ];
}

-- one more name
pub one_more : (names : List (Bor (List ℕ))) (i : ℕ) (d : Bor (List ℕ)) → i < length names
    → map (λ (s : Bor (List ℕ)). s.now) (take (i + 1) names) ≡ map (λ (s : Bor (List ℕ)). s.now) (take i names) ++ (get_or names i d).now ∷ []
one_more names i d small =
    let step : take (i + 1) names ≡ take i names ++ get_or names i d ∷ [] = rw add-one (take-suc names i d small) in
    ap (map (λ (s : Bor (List ℕ)). s.now)) step ∙ map-append (λ (s : Bor (List ℕ)). s.now) (take i names) (get_or names i d ∷ [])
