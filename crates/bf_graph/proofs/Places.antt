-- The first place in a list that passes a test.
use Rattle.std.proofs.Common.{◌≡◌, ℕ, ◌<◌, List, length, get_or, Bool, true, false, cond, nat_lt, Some, None, refl, ap, ◌∙◌, arith}
use Rattle.std.specs.List.{position, position_or_len}
use Rattle.std.proofs.lemmas.Bool.{lt-ltb, ltb-true, ltb-false, false_from_ne_true}
use Rattle.std.proofs.lemmas.List.Sums.{position_or_len_is, fails_before_first}

module _ {X : Type 0} (p : X → Bool) (xs : List X) (d : X) where
  abbrev FailBelow : ℕ → Type 0
  FailBelow i = (k : ℕ) → k < i → p (get_or xs k d) ≡ false

  pub placed : (i : ℕ) → i < length xs → FailBelow i → p (get_or xs i d) ≡ true → position p xs ≡ Some i
  placed i within before here =
      let is : position_or_len p xs ≡ i = position_or_len_is p xs i d (omega (arith, within)) before (λ h. here) in
      ap (λ n. cond (nat_lt n (length xs)) (Some n) None) is ∙ ap (λ b. cond b (Some i) None) (lt-ltb i (length xs) within)

  pub missing : FailBelow (length xs) → position p xs ≡ None
  missing none =
      let is : position_or_len p xs ≡ length xs = position_or_len_is p xs (length xs) d (omega arith) none (λ h. absurd (omega (arith, h))) in
      let low : nat_lt (length xs) (length xs) ≡ false = false_from_ne_true (nat_lt (length xs) (length xs)) (λ e. let bad = ltb-true (length xs) (length xs) e in omega (arith, bad)) in
      ap (λ n. cond (nat_lt n (length xs)) (Some n) None) is ∙ ap (λ b. cond b (Some (length xs)) None) low

  pub none_passing : position p xs ≡ None → FailBelow (length xs)
  none_passing e k h = go (nat_lt (position_or_len p xs) (length xs)) refl e
    where
      go : (b : Bool) → nat_lt (position_or_len p xs) (length xs) ≡ b → cond b (Some (position_or_len p xs)) None ≡ None → p (get_or xs k d) ≡ false
      go true f bad = absurd (cc)
      go false f same = (let high = ltb-false (position_or_len p xs) (length xs) f in fails_before_first p xs k d (omega (arith, h, high)))
