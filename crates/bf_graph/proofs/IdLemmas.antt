-- The numbers of ids, as they are told one after another.
use Rattle.std.proofs.Common.{◌≡◌, ℕ, ◌<◌, ◌+◌, List, [], length, get_or, position, bytes_eq, Bool, true, false, cond, Option, Some, None, MatchOption, inl, inr, refl, sym, ap, ◌∙◌, subst, arith}
use Rattle.std.specs.Cmp.Lexicographic.{bytes_decides, nat_list_eq_equiv}
use Rattle.std.proofs.lemmas.Bool.{cases_eq, false_from_ne_true}
use Rattle.bf_value.specs.Distinct.{AreDistinct}
use Rattle.bf_graph.proofs.Places.{missing, placed}

module _ (ids : List (List ℕ)) (q : List ℕ) where
  -- what is told of an id by the first n: a number below n at which it stands, or that none of them is it
  abbrev pub IsTold : ℕ → Option ℕ → Type 0
  IsTold n told = MatchOption told ((k : ℕ) → k < n → bytes_eq q (get_or ids k []) ≡ false) (λ k. (k < n) × (get_or ids k [] ≡ q))

  -- the next one is told too
  pub one_told : (n : ℕ) (x : List ℕ) (old new : Option ℕ) → get_or ids n [] ≡ x → new ≡ cond (bytes_eq x q) (Some n) old → IsTold n old → IsTold (n + 1) new
  one_told n x old new here is before = go (bytes_eq x q) refl is
    where
      still : (o : Option ℕ) → bytes_eq x q ≡ false → IsTold n o → IsTold (n + 1) o
      still None differ none = λ k h. elim (cases_eq k n) as (λ _. bytes_eq q (get_or ids k []) ≡ false) [
        | inl e ↦ ap (λ i. bytes_eq q (get_or ids i [])) e ∙ ap (bytes_eq q) here ∙ nat_list_eq_equiv.symm q x ∙ differ
        | inr other ↦ none k (omega (arith, h, other))
      ]
      still (Some k) differ found = (omega (arith, found.0), found.1)

      go : (b : Bool) → bytes_eq x q ≡ b → new ≡ cond b (Some n) old → IsTold (n + 1) new
      go true same e = subst (IsTold (n + 1)) (sym e) (omega arith, here ∙ (bytes_decides x q).0 same)
      go false differ e = subst (IsTold (n + 1)) (sym e) (still old differ before)

  -- where all are told, it is where the id stands
  pub all_told : AreDistinct ids → (told : Option ℕ) → IsTold (length ids) told → told ≡ position (bytes_eq q) ids
  all_told apart None none = sym (missing (bytes_eq q) ids [] none)
  all_told apart (Some k) found = sym (placed (bytes_eq q) ids [] k found.0 (λ j h.
      let other = get_or ids j [] in
      false_from_ne_true (bytes_eq q other) (λ same. apart j k [] h found.0 (sym ((bytes_decides q other).0 same) ∙ sym found.1))) ((bytes_decides q (get_or ids k [])).1 (sym found.1)))
