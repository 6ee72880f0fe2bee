-- What a list with one item more at its front contains.
use Rattle.std.proofs.Common.{◌≡◌, ◌⊎◌, ◌<◌, ℕ, suc, zero, List, ◌∷◌, length, slice_index_or, Contains, refl, sym, arith, inl, inr}

module _ {X : Type 0} (x : X) (ys : List X) where
  pub contains_first : Contains (x ∷ ys) x
  contains_first = (0, omega arith, refl)

  pub contains_rest : (y : X) → Contains ys y → Contains (x ∷ ys) y
  contains_rest y c = (suc c.0, omega (arith, c.1), c.2)

  pub contains_cases : (y : X) → Contains (x ∷ ys) y → (y ≡ x) ⊎ Contains ys y
  contains_cases y c = go c.0 c.1 c.2
    where
      go : (k : ℕ) → k < length (x ∷ ys) → slice_index_or (x ∷ ys) k y ≡ y → (y ≡ x) ⊎ Contains ys y
      go zero l e = inl (sym e)
      go (suc k) l e = inr (k, omega arith, e)
