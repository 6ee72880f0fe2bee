-- What heaps hold, and which of it is at hand.
use Rattle.std.proofs.Common.{◌≡◌, ◌⊎◌, ℕ, ◌<◌, ℤ, ◌≤ℤ◌, false, Ordering, Less, Equal, Greater, List, [], ◌∷◌, slice_get, Option, None, Some, IfSome, Contains, refl, sym, ◌∙◌, subst, inl, inr, arith}
use Rattle.std.specs.List.Sorted.{IsPermutation}
use Rattle.std.specs.Ordering.{nat_cmp, int_cmp, ordering_then, is_lt}
use Rattle.std.specs.BinaryHeap.{IsUpperBound}
use Rattle.std.proofs.lemmas.Cmp.{ranked, int_ranked}
use Rattle.std.proofs.lemmas.Int.{ints}
use Rattle.std.proofs.lemmas.List.Sorted.{Contains-permutation, IsPermutation-sym}
use Rattle.bf_core.proofs.Members.{contains_first, contains_rest, contains_cases}
use Rattle.bf_waiting.specs.declared.batches.Batch.{Batch}
use Rattle.bf_waiting.specs.declared.delays.Delay.{Delay}
use Rattle.bf_waiting.specs.inner.Classes.{AreReleased, batch_of}
use Rattle.bf_waiting.specs.Heaps.{batch_cmp, delay_cmp}
use Rattle.bf_waiting.specs.inner.Heaps.{Leads}

-- new holds what old holds, and x
pub record HasGained {X : Type 0} (old : List X) (x : X) (new : List X) : Type 0 where
  pub kept : (y : X) → Contains old y → Contains new y
  pub gained : Contains new x
  pub no_more : (y : X) → Contains new y → (y ≡ x) ⊎ Contains old y

-- old holds what new holds, and x
abbrev pub HasLost : {X : Type 0} → List X → X → List X → Type 0
HasLost old x new = HasGained new x old

module _ {X : Type 0} where
  pub gained : (x : X) (old new : List X) → IsPermutation (x ∷ old) new → HasGained old x new
  gained x old new p = record {
    kept = λ y c. Contains-permutation (x ∷ old) new y p (contains_rest x old y c);
    gained = Contains-permutation (x ∷ old) new x p (contains_first x old);
    no_more = λ y c. contains_cases x old y (Contains-permutation new (x ∷ old) y (IsPermutation-sym (x ∷ old) new p) c);
  }

  pub lost : (x : X) (old new : List X) → IsPermutation old (x ∷ new) → HasLost old x new
  lost x old new p = gained x new old (IsPermutation-sym old (x ∷ new) p)

  pub top_in : (xs : List X) (x : X) → Some x ≡ slice_get xs 0 → Contains xs x
  top_in [] x e = cc
  top_in (y ∷ ys) x e = let same : y ≡ x = cc in (0, omega arith, same)

  -- what holds of the one that was taken holds of the one that was first
  pub that_one : (P : X → Type 0) (taken first : Option X) (x : X) → taken ≡ first → Some x ≡ first → IfSome taken P → P x
  that_one P None first x e f h = cc
  that_one P (Some y) first x e f h = let both : Some y ≡ Some x = e ∙ sym f in let same : y ≡ x = cc in subst P same h

  -- what is bounded by x in an order is so related to it
  pub bounded : (R : X → X → Ordering) (P : X → X → Type 0) → ((x y : X) → is_lt (R x y) ≡ false → P x y) → (x : X) (xs : List X) → IsUpperBound R x xs → (y : X) → Contains xs y → P x y
  bounded R P holds x [] b y c = absurd (omega (arith, c.1))
  bounded R P holds x (z ∷ zs) b y c = elim (contains_cases z zs y c) [ inl same ↦ rw same (holds x z b.0) | inr d ↦ bounded R P holds x zs b.1 y d ]

-- the order by two numbers and what follows, of which the lesser comes first
lesser : (a b : ℕ) (q : Ordering) → is_lt (ordering_then (nat_cmp b a) q) ≡ false → (a < b) ⊎ ((a ≡ b) × (is_lt q ≡ false))
lesser a b q e = go (nat_cmp b a) refl e
  where
    go : (r : Ordering) → r ≡ nat_cmp b a → is_lt (ordering_then r q) ≡ false → (a < b) ⊎ ((a ≡ b) × (is_lt q ≡ false))
    go Less is e = cc
    go Greater is e = let h : a < b = ranked b a Greater is in inl h
    go Equal is e = let h : b ≡ a = ranked b a Equal is in inr (sym h, e)

pub leads : (x y : Batch) → is_lt (batch_cmp x y) ≡ false → Leads x y
leads x y e = elim (lesser y.weight x.weight _ e) [
  | inl l ↦ inl l
  | inr w ↦ inr (
    w.0,
    elim (lesser x.run.0 y.run.0 _ w.1) [
      | inl l ↦ inl l
      | inr r ↦ inr (
        r.0,
        elim (lesser x.task.0 y.task.0 _ r.1) [
          | inl l ↦ inl l
          | inr t ↦ inr (t.0, elim (lesser x.first.0 y.first.0 _ t.1) [ inl l ↦ omega (arith, l) | inr f ↦ omega (arith, f.0) ])
        ],
      )
    ],
  )
]

pub no_later : (x y : Delay) → is_lt (delay_cmp x y) ≡ false → x.moment.0 ≤ℤ y.moment.0
no_later x y e = go (int_cmp y.moment.0 x.moment.0) refl _ e
  where
    go : (m : Ordering) → m ≡ int_cmp y.moment.0 x.moment.0 → (q : Ordering) → is_lt (ordering_then m q) ≡ false → x.moment.0 ≤ℤ y.moment.0
    go Less a q e = cc
    go Greater a q e = let h = int_ranked y.moment.0 x.moment.0 Greater a in omega (arith, ints, h)
    go Equal a q e = let h = int_ranked y.moment.0 x.moment.0 Equal a in omega (arith, ints, h)

-- one more delay is released
pub released_more : (now : ℤ) (weights : List ℕ) (batches mid new : List Batch) (delays mid_delays new_delays : List Delay) (d : Delay) → AreReleased now weights batches delays mid mid_delays → d.moment.0 ≤ℤ now →
    IsPermutation mid_delays (d ∷ new_delays) → IsPermutation (batch_of weights d.run d.task d.place ∷ mid) new → AreReleased now weights batches delays new new_delays
released_more now weights batches mid new delays mid_delays new_delays d is come taken added = record {
  kept = λ x c. more.kept x (is.kept x c);
  no_more = λ x c. elim (more.no_more x c) [ inl e ↦ inr (d, is.fewer d less.gained, e) | inr m ↦ is.no_more x m ];
  fewer = λ x c. is.fewer x (less.kept x c);
  either = λ x c. elim (is.either x c) [
    | inl m ↦ elim (less.no_more x m) [ inl e ↦ inr (rw e (come, more.gained)) | inr n ↦ inl n ]
    | inr h ↦ inr (h.0, more.kept _ h.1)
  ];
}
  where
    more : HasGained mid (batch_of weights d.run d.task d.place) new
    more = gained _ mid new added

    less : HasGained new_delays d mid_delays
    less = lost d mid_delays new_delays taken
