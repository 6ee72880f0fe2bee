-- The run that starts at a moment.
use Rattle.std.proofs.Common.{◌≡◌, ◌+◌, Bool, true, false, cond, not, nat_lt, List, [], ◌∷◌, None, Some, length, All, find, refl, subst, arith}
use Rattle.std.specs.List.{position, position_or_len, prefix_len}
use Rattle.std.specs.Option.{is_none}
use Rattle.std.proofs.lemmas.Bool.Decides.{nat_tests}
use Rattle.std.proofs.lemmas.List.Elements.{All-head, All-tail}

module _ {X : Type 0} (p : X → Bool) where
  -- where none is found, all are passed
  none_past : (xs : List X) → find p xs ≡ None → position_or_len p xs ≡ length xs
  none_past [] is = refl
  none_past (x ∷ xs) is = go (p x) (none_past xs) is
    where
      go : (b : Bool) → (find p xs ≡ None → position_or_len p xs ≡ length xs) → cond b (Some x) (find p xs) ≡ None → cond (not b) (1 + prefix_len (λ y. not (p y)) xs) 0 ≡ length (x ∷ xs)
      go true rest some = absurd (cc)
      go false rest none = let past : prefix_len (λ y. not (p y)) xs ≡ length xs = rest none in omega (arith, past)

  pub no_position : (xs : List X) → find p xs ≡ None → is_none (position p xs) ≡ true
  no_position xs is =
      let past = none_past xs is in
      let all : nat_lt (position_or_len p xs) (length xs) ≡ false = grind (arith, nat_tests, past) in
      rw all refl

  -- what is found passes, and what holds of all holds of it
  pub found : (P : X → Type 0) (xs : List X) → All P xs → (x : X) → find p xs ≡ Some x → P x × (p x ≡ true)
  found P [] all x is = absurd (cc)
  found P (y ∷ ys) all x is = go (p y) refl (found P ys (All-tail P y ys all) x) is
    where
      go : (b : Bool) → p y ≡ b → (find p ys ≡ Some x → P x × (p x ≡ true)) → cond b (Some y) (find p ys) ≡ Some x → P x × (p x ≡ true)
      go true passes later same = let is_y : y ≡ x = cc in (subst P is_y (All-head P y ys all), subst (λ (z : X). p z ≡ true) is_y passes)
      go false fails later rest = later rest
