-- The batch that leads all others.
use Rattle.std.proofs.Common.{◌≡◌, ◌⊎◌, ℕ, ◌+◌, ◌<◌, ◌≤◌, List, [], ◌∷◌, length, slice_get, Option, None, Some, IfSome, IfNone, Contains, sym, ap, ◌∙◌, subst, inl, inr, arith}
use Rattle.bf_core.specs.Cores.{Backfill}
use Rattle.bf_core.proofs.Numbers.{below_or}
use Rattle.bf_waiting.specs.declared.batches.Batch.{Batch}
use Rattle.bf_waiting.specs.Classes.{Waits}
use Rattle.bf_waiting.specs.inner.Heaps.{Leads, StandsFirst}
use Rattle.bf_waiting.specs.inner.Looks.{IsBestTo, IsLeading, LeadsAny, MayTake}

stands_over : (x y z : Batch) → StandsFirst x y → StandsFirst y z → StandsFirst x z
stands_over x y z p q = elim p [
  | inl a ↦ elim q [ inl b ↦ inl (omega (arith, a, b)) | inr b ↦ inl (omega (arith, a, b.0)) ]
  | inr a ↦ elim q [
    | inl b ↦ inl (omega (arith, a.0, b))
    | inr b ↦ inr (
      a.0 ∙ b.0,
      elim a.1 [
        | inl c ↦ elim b.1 [ inl d ↦ inl (omega (arith, c, d)) | inr d ↦ inl (omega (arith, c, d.0)) ]
        | inr c ↦ elim b.1 [ inl d ↦ inl (omega (arith, c.0, d)) | inr d ↦ inr (c.0 ∙ d.0, omega (arith, c.1, d.1)) ]
      ],
    )
  ]
]

leads_over : (x y z : Batch) → Leads x y → Leads y z → Leads x z
leads_over x y z p q = elim p [
  | inl a ↦ elim q [ inl b ↦ inl (omega (arith, a, b)) | inr b ↦ inl (omega (arith, a, b.0)) ]
  | inr a ↦ elim q [ inl b ↦ inl (omega (arith, a.0, b)) | inr b ↦ inr (b.0 ∙ a.0, stands_over x y z a.1 b.1) ]
]

pub none_top : {X : Type 0} (xs : List X) → slice_get xs 0 ≡ None → (y : X) → Contains xs y → ⊥
none_top [] e y c = omega (arith, c.1)
none_top (x ∷ xs) e y c = cc

module _ (b : Backfill) (classes : List Waits) where
  led_before : (n : ℕ) (x : Batch) (best : Option Batch) → IsBestTo b n classes best → LeadsAny x best → (j : ℕ) (c : Waits) (y : Batch) → j < n → slice_get classes j ≡ Some c → MayTake b c → Contains c.batches.items y → Leads x y
  led_before n x None is lead j c y l h may con = absurd (none_top c.batches.items (is j c l h may) y con)
  led_before n x (Some w) is lead j c y l h may con = leads_over x w y lead (is.1 j c y l h may con)

  led_here : (x : Batch) (c : Waits) (found : Option Batch) → IfSome found (λ w. (y : Batch) → Contains c.batches.items y → Leads w y) → IfNone found (MayTake b c → slice_get c.batches.items 0 ≡ None) → LeadsAny x found →
      MayTake b c → (y : Batch) → Contains c.batches.items y → Leads x y
  led_here x c None first none lead may y con = absurd (none_top c.batches.items (none may) y con)
  led_here x c (Some w) first none lead may y con = leads_over x w y lead (first y con)

  same_class : (n : ℕ) (c : Waits) → slice_get classes n ≡ Some c → (d : Waits) (j : ℕ) → slice_get classes j ≡ Some d → j ≡ n → d ≡ c
  same_class n c there d j h same = let both : Some d ≡ Some c = sym h ∙ (ap (slice_get classes) same ∙ there) in cc

  -- one more class
  pub best_more : (n : ℕ) (best found result : Option Batch) (c : Waits) → slice_get classes n ≡ Some c → IfSome found (λ x. MayTake b c × (Some x ≡ slice_get c.batches.items 0)) →
      IfSome found (λ w. (y : Batch) → Contains c.batches.items y → Leads w y) → IfNone found (MayTake b c → slice_get c.batches.items 0 ≡ None) →
      IsLeading best found result → IsBestTo b n classes best → IsBestTo b (n + 1) classes result
  best_more n best found None c there some first none lead is = λ j d l h may. elim (below_or j n l) [
    | inl less ↦ (subst (λ (o : Option Batch). IsBestTo b n classes o) lead.0 is) j d less h may
    | inr same ↦ subst (λ (w : Waits). MayTake b w → slice_get w.batches.items 0 ≡ None) (sym (same_class n c there d j h same)) (subst (λ (o : Option Batch). IfNone o (MayTake b c → slice_get c.batches.items 0 ≡ None)) lead.1 none) may
  ]
  best_more n best found (Some x) c there some first none lead is = (
    elim lead.0 [
      | inl e ↦ (subst (λ (o : Option Batch). IsBestTo b n classes o) e is).0
      | inr e ↦ (let one = subst (λ (o : Option Batch). IfSome o (λ y. MayTake b c × (Some y ≡ slice_get c.batches.items 0))) e some in (n, c, there, one.0, sym one.1))
    ],
    λ j d y l h may con. elim (below_or j n l) [
      | inl less ↦ led_before n x best is lead.1 j d y less h may con
      | inr same ↦ led_here x c found first none lead.2 (subst (MayTake b) (same_class n c there d j h same) may) y (subst (λ (w : Waits). Contains w.batches.items y) (same_class n c there d j h same) con)
    ],
  )

-- all classes are passed
pub all_best : (b : Backfill) (classes : List Waits) (n : ℕ) (best : Option Batch) → length classes ≤ n → IsBestTo b n classes best → IsBestTo b (length classes) classes best
all_best b classes n None end is = λ j c l h may. is j c (omega (arith, l, end)) h may
all_best b classes n (Some x) end is = (is.0, λ j c y l h may con. is.1 j c y (omega (arith, l, end)) h may con)
