-- Agendas: what is in them after a change, and that the top comes first.
use Rattle.std.proofs.Common.{◌≡◌, ◌⊎◌, ℕ, ◌<◌, ◌≤◌, false, Ordering, Less, Equal, Greater, List, [], ◌∷◌, map, slice_get, Option, None, Some, refl, sym, ◌∙◌, subst, inl, inr, arith}
use Rattle.std.specs.List.{Contains}
use Rattle.std.specs.Prelude.{IfNone, IfSome}
use Rattle.std.specs.List.Sorted.{IsPermutation}
use Rattle.std.specs.Ordering.{nat_cmp, ordering_then, is_lt}
use Rattle.std.specs.BinaryHeap.{IsUpperBound}
use Rattle.std.specs.declared.cmp.Reverse.{Reverse}
use Rattle.std.proofs.lemmas.Cmp.{ranked}
use Rattle.std.proofs.lemmas.List.Sorted.{Contains-permutation, IsPermutation-map, IsPermutation-sym}
use Rattle.bf_core.proofs.Members.{contains_first, contains_rest, contains_cases}
use Rattle.bf_due.specs.declared.agenda.Step.{Step}
use Rattle.bf_due.specs.declared.agenda.Turn.{Turn}
use Rattle.bf_due.specs.contracts.agenda.StepOrd.TheImpl as by_step
use Rattle.bf_due.specs.contracts.agenda.TurnOrd.TheImpl as by_turn
use Rattle.bf_due.specs.Agendas.{reverse_cmp}
use Rattle.bf_due.specs.inner.Agendas.{Comes, TurnComes}

-- ---- the order

no_later : (a b : ℕ) → is_lt (nat_cmp b a) ≡ false → a ≤ b
no_later a b e = go (nat_cmp b a) refl e
  where
    go : (r : Ordering) → r ≡ nat_cmp b a → is_lt r ≡ false → a ≤ b
    go Less is e = cc
    go Equal is e = let h : b ≡ a = ranked b a Equal is in omega arith
    go Greater is e = let h : a < b = ranked b a Greater is in omega arith

-- of two numbers compared before the rest: the first is less, or both are equal and the rest decides
first_then : (a b : ℕ) (rest : Ordering) → is_lt (ordering_then (nat_cmp b a) rest) ≡ false → (a < b) ⊎ ((a ≡ b) × (is_lt rest ≡ false))
first_then a b rest e = go (nat_cmp b a) refl e
  where
    go : (r : Ordering) → r ≡ nat_cmp b a → is_lt (ordering_then r rest) ≡ false → (a < b) ⊎ ((a ≡ b) × (is_lt rest ≡ false))
    go Less is e = cc
    go Equal is e = let h : b ≡ a = ranked b a Equal is in inr (sym h, e)
    go Greater is e = let h : a < b = ranked b a Greater is in inl h

turn_comes : (x y : Turn) → is_lt (by_turn.ghosts.cmp y x) ≡ false → TurnComes x y
turn_comes x y e = elim (first_then x.run y.run _ e) [
  | inl l ↦ inl l
  | inr same_run ↦ elim (first_then x.rank y.rank _ same_run.1) [
    | inl l ↦ inr (same_run.0, inl l)
    | inr same_rank ↦ inr (same_run.0, inr (same_rank.0, no_later x.task y.task same_rank.1))
  ]
]

comes : (x y : Step) → is_lt (by_step.ghosts.cmp y x) ≡ false → Comes x y
comes (Step.Close j) (Step.Close k) e = no_later j k e
comes (Step.Close j) Step.Open e = omega arith
comes (Step.Close j) (Step.Settle y) e = omega arith
comes (Step.Close j) (Step.Expand y) e = omega arith
comes Step.Open (Step.Close k) e = cc
comes Step.Open Step.Open e = tt
comes Step.Open (Step.Settle y) e = omega arith
comes Step.Open (Step.Expand y) e = omega arith
comes (Step.Settle x) (Step.Close k) e = cc
comes (Step.Settle x) Step.Open e = cc
comes (Step.Settle x) (Step.Settle y) e = turn_comes x y e
comes (Step.Settle x) (Step.Expand y) e = omega arith
comes (Step.Expand x) (Step.Close k) e = cc
comes (Step.Expand x) Step.Open e = cc
comes (Step.Expand x) (Step.Settle y) e = cc
comes (Step.Expand x) (Step.Expand y) e = turn_comes x y e

-- ---- what is in a list

abbrev pub unwrapped : List (Reverse Step) → List Step
unwrapped xs = map (λ (r : Reverse Step). r.0) xs

pub top_in : (xs : List Step) (x : Step) → Some x ≡ slice_get xs 0 → Contains xs x
top_in [] x e = cc
top_in (y ∷ ys) x e = let same : y ≡ x = cc in (0, omega arith, same)

pub no_items : (xs : List Step) → None ≡ slice_get xs 0 → (x : Step) → Contains xs x → ⊥
no_items [] e x c = omega (arith, c.1)
no_items (y ∷ ys) e x c = cc

-- ---- a heap

-- the top comes before all
pub bounded : (top : Reverse Step) (xs : List (Reverse Step)) → IsUpperBound reverse_cmp top xs → (y : Step) → Contains (unwrapped xs) y → Comes top.0 y
bounded top [] b y c = absurd (omega (arith, c.1))
bounded top (z ∷ zs) b y c = elim (contains_cases z.0 (unwrapped zs) y c) [
  | inl same ↦ subst (λ (w : Step). Comes top.0 w) (sym same) (comes top.0 z.0 b.0)
  | inr more ↦ bounded top zs b.1 y more
]

pub unwrapped_alike : (xs ys : List (Reverse Step)) → IsPermutation xs ys → IsPermutation (unwrapped xs) (unwrapped ys)
unwrapped_alike xs ys p = IsPermutation-map (λ (r : Reverse Step). r.0) xs ys p

-- ---- one step more, or less

pub there_added : (x : Step) (old new : List Step) → IsPermutation (x ∷ old) new → Contains new x
there_added x old new p = Contains-permutation (x ∷ old) new x p (contains_first x old)

pub kept_added : (x : Step) (old new : List Step) → IsPermutation (x ∷ old) new → (y : Step) → Contains old y → Contains new y
kept_added x old new p y c = Contains-permutation (x ∷ old) new y p (contains_rest x old y c)

pub only_added : (x : Step) (old new : List Step) → IsPermutation (x ∷ old) new → (y : Step) → Contains new y → (y ≡ x) ⊎ Contains old y
only_added x old new p y c = contains_cases x old y (Contains-permutation new (x ∷ old) y (IsPermutation-sym (x ∷ old) new p) c)

-- what is not the step that was taken out is still there
pub still_there : (r : Option Step) (old new : List Step) (step x : Step) → r ≡ slice_get old 0 → Some step ≡ slice_get old 0 →
    IfSome r (λ z. IsPermutation old (z ∷ new)) → (x ≡ step → ⊥) → Contains old x → Contains new x
still_there None old new step x e f lost other c = let g : None ≡ Some step = e ∙ sym f in cc
still_there (Some z) old new step x e f lost other c =
    let g : Some z ≡ Some step = e ∙ sym f in
    let same : z ≡ step = cc in
    elim (contains_cases z new x (Contains-permutation old (z ∷ new) x lost c)) [ inl h ↦ absurd (other (h ∙ same)) | inr h ↦ h ]

-- what is there then was there before
pub was_there : (r : Option Step) (old new : List Step) → IfSome r (λ z. IsPermutation old (z ∷ new)) → IfNone r (new ≡ old) → (y : Step) → Contains new y → Contains old y
was_there None old new lost same y c = subst (λ (xs : List Step). Contains xs y) same c
was_there (Some z) old new lost same y c = Contains-permutation (z ∷ new) old y (IsPermutation-sym old (z ∷ new) lost) (contains_rest z new y c)
