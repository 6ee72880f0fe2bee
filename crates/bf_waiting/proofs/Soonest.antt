-- The earliest of the moments that classes wait for.
use Rattle.std.proofs.Common.{◌≡◌, ℕ, ◌+◌, ◌≤◌, ℤ, ◌≤ℤ◌, ◌<ℤ◌, List, [], length, slice_get, Option, None, Some, IfSome, IfNone, Contains, sym, ap, ◌∙◌, subst, inl, inr, arith}
use Rattle.std.proofs.lemmas.Int.{ints, clamps, by_lt_z}
use Rattle.std.specs.Int.{int_min}
use Rattle.bf_waiting.specs.declared.delays.Delay.{Delay}
use Rattle.bf_waiting.specs.Classes.{Waits}
use Rattle.bf_waiting.specs.Looks.{earlier_moment_of}
use Rattle.bf_waiting.specs.inner.Looks.{IsSoonestTo}
use Rattle.bf_core.proofs.Numbers.{below_or}

no_item : (d : Delay) (xs : List Delay) → xs ≡ [] → Contains xs d → ⊥
no_item d xs e c = let none : Contains [] d = subst (λ (ys : List Delay). Contains ys d) e c in absurd (omega (arith, none.1))

pub min_left : (a b : ℤ) → a ≤ℤ b → int_min a b ≡ a
min_left a b l = omega (arith, ints, clamps, l)

pub min_right : (a b : ℤ) → b <ℤ a → int_min a b ≡ b
min_right a b l = omega (arith, ints, clamps, l)

module _ (classes : List Waits) where
  -- one more class
  pub soonest_more : (n : ℕ) (soonest found : Option ℤ) (c : Waits) → slice_get classes n ≡ Some c →
      IfSome found (λ m. (d : Delay) × Contains c.delays.items d × (d.moment.0 ≡ m)) → IfSome found (λ m. (d : Delay) → Contains c.delays.items d → m ≤ℤ d.moment.0) → IfNone found (c.delays.items ≡ []) →
      IsSoonestTo n classes soonest → IsSoonestTo (n + 1) classes (earlier_moment_of soonest found)
  soonest_more n soonest found c there one first none is = go soonest found one first none is
    where
      same_class : (j : ℕ) (d : Waits) → slice_get classes j ≡ Some d → j ≡ n → d ≡ c
      same_class j d h same = let both : Some d ≡ Some c = sym h ∙ (ap (slice_get classes) same ∙ there) in cc

      here : (x : Delay) (j : ℕ) (d : Waits) → slice_get classes j ≡ Some d → j ≡ n → Contains d.delays.items x → Contains c.delays.items x
      here x j d h same con = subst (λ (w : Waits). Contains w.delays.items x) (same_class j d h same) con

      go : (soonest found : Option ℤ) → IfSome found (λ m. (d : Delay) × Contains c.delays.items d × (d.moment.0 ≡ m)) → IfSome found (λ m. (d : Delay) → Contains c.delays.items d → m ≤ℤ d.moment.0) → IfNone found (c.delays.items ≡ []) →
          IsSoonestTo n classes soonest → IsSoonestTo (n + 1) classes (earlier_moment_of soonest found)
      go None None one first none is = λ j d x l h con. elim (below_or j n l) [ inl less ↦ is j d x less h con | inr same ↦ no_item x c.delays.items none (here x j d h same con) ]
      go None (Some f) one first none is = (
        (n, c, one.0, there, one.1, one.2),
        λ j d x l h con. elim (below_or j n l) [ inl less ↦ absurd (is j d x less h con) | inr same ↦ first x (here x j d h same con) ],
      )
      go (Some a) None one first none is = (
        is.0,
        λ j d x l h con. elim (below_or j n l) [ inl less ↦ is.1 j d x less h con | inr same ↦ absurd (no_item x c.delays.items none (here x j d h same con)) ],
      )
      go (Some a) (Some f) one first none is = by_lt_z f a
          (λ (l : f <ℤ a). subst (λ (m : ℤ). IsSoonestTo (n + 1) classes (Some m)) (sym (min_right a f l)) (
            (n, c, one.0, there, one.1, one.2),
            λ j d x k h con. elim (below_or j n k) [ inl less ↦ (let le = is.1 j d x less h con in omega (arith, ints, le, l)) | inr same ↦ first x (here x j d h same con) ],
          ))
          (λ (l : a ≤ℤ f). subst (λ (m : ℤ). IsSoonestTo (n + 1) classes (Some m)) (sym (min_left a f l)) (
            is.0,
            λ j d x k h con. elim (below_or j n k) [ inl less ↦ is.1 j d x less h con | inr same ↦ (let le = first x (here x j d h same con) in omega (arith, ints, le, l)) ],
          ))

-- all classes are passed
pub all_soonest : (classes : List Waits) (n : ℕ) (soonest : Option ℤ) → length classes ≤ n → IsSoonestTo n classes soonest → IsSoonestTo (length classes) classes soonest
all_soonest classes n None end is = λ j c d l h. is j c d (omega (arith, l, end)) h
all_soonest classes n (Some m) end is = (is.0, λ j c d l h con. is.1 j c d (omega (arith, l, end)) h con)
