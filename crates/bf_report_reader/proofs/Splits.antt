-- Where a byte stands first in a text.
use Rattle.std.proofs.Common.{◌≡◌, ◌≤◌, ◌<◌, ◌+◌, ◌-◌, ◌==◌, ℕ, zero, suc, List, [], ◌∷◌, ◌++◌, length, get_or, take, drop, nat_lt, position, Some, None, false, refl, sym, ap, ◌∙◌, subst, inl, inr, arith, length-drop, add-one}
use Rattle.std.proofs.lemmas.Bool.{cases_Bool, eqb-true}
use Rattle.std.proofs.lemmas.Bool.Decides.{nat_tests}
use Rattle.std.specs.List.{position_or_len}
use Rattle.std.proofs.Math.Seq.{split_at}
use Rattle.std.proofs.lemmas.List.{take_all, take-append-le}
use Rattle.std.proofs.lemmas.List.Sums.{fails_before_first}
use Rattle.std.proofs.lemmas.List.Quantifiers.{position-Some}
use Rattle.bf_value.proofs.LackLemmas.{Lacks, first_lacks}

pub tails : (x y : ℕ) (xs ys : List ℕ) → x ∷ xs ≡ y ∷ ys → (x ≡ y) × (xs ≡ ys)
tails x y xs ys e = (ap (λ l. get_or l 0 0) e, ap (λ l. drop 1 l) e)

-- texts that are alike up to the first such byte
pub cut_once : (s : ℕ) (a b x y : List ℕ) → Lacks s a → Lacks s b → a ++ s ∷ x ≡ b ++ s ∷ y → (a ≡ b) × (x ≡ y)
cut_once s [] [] x y la lb e = (refl, (tails s s x y e).1)
cut_once s [] (c ∷ cs) x y la lb e = absurd ((first_lacks s c cs lb).0 (sym (tails s c x (cs ++ s ∷ y) e).0))
cut_once s (c ∷ cs) [] x y la lb e = absurd ((first_lacks s c cs la).0 (tails c s (cs ++ s ∷ x) y e).0)
cut_once s (c ∷ cs) (d ∷ ds) x y la lb e =
    let (same, rest) = tails c d (cs ++ s ∷ x) (ds ++ s ∷ y) e in
    let (front, back) = cut_once s cs ds x y (first_lacks s c cs la).1 (first_lacks s d ds lb).1 rest in
    (ap (λ l. c ∷ l) front ∙ ap (λ n. n ∷ ds) same, back)

-- a text without the byte has no part that ends in it
pub none_stands : (s : ℕ) (text a x : List ℕ) → Lacks s text → text ≡ a ++ s ∷ x → ⊥
none_stands s [] [] x l e = absurd (cc)
none_stands s [] (c ∷ cs) x l e = absurd (cc)
none_stands s (t ∷ ts) [] x l e = (first_lacks s t ts l).0 (tails t s ts x e).0
none_stands s (t ∷ ts) (c ∷ cs) x l e = none_stands s ts cs x (first_lacks s t ts l).1 (tails t c ts (cs ++ s ∷ x) e).1

-- a piece without the byte ends before it
pub within_piece : (s : ℕ) (l x piece y : List ℕ) → Lacks s piece → l ++ s ∷ x ≡ piece ++ y → length piece ≤ length l
within_piece s l x [] y lacks e = omega arith
within_piece s [] x (p ∷ ps) y lacks e = absurd ((first_lacks s p ps lacks).0 (sym (tails s p x (ps ++ y) e).0))
within_piece s (c ∷ cs) x (p ∷ ps) y lacks e = omega (arith, within_piece s cs x ps y (first_lacks s p ps lacks).1 (tails c p (cs ++ s ∷ x) (ps ++ y) e).1)

-- and begins as it does
pub piece_first : (s n : ℕ) (l x piece y : List ℕ) → Lacks s piece → n ≤ length piece → l ++ s ∷ x ≡ piece ++ y → take n l ≡ take n piece
piece_first s n l x piece y lacks some e =
    sym (take-append-le n l (s ∷ x) (omega (arith, some, within_piece s l x piece y lacks e))) ∙ ap (take n) e ∙ take-append-le n piece y some

-- ---- the place of the first such byte

lacks_up_to : (s n : ℕ) (xs : List ℕ) → ((k : ℕ) → k < n → k < length xs → (get_or xs k 0 == s) ≡ false) → Lacks s (take n xs)
lacks_up_to s zero xs other = refl
lacks_up_to s (suc n) [] other = refl
lacks_up_to s (suc n) (x ∷ xs) other = rw (other 0 (omega arith) (omega arith)) (lacks_up_to s n xs (λ k l m. other (suc k) (omega arith) (omega arith)))

pub lacks_before : (s n : ℕ) (xs : List ℕ) → position (λ b. b == s) xs ≡ Some n → Lacks s (take n xs)
lacks_before s n xs at = let found = position-Some (λ b. b == s) xs n 0 at in lacks_up_to s n xs (λ k l m. found.2 k l)

pub lacks_all : (s : ℕ) (xs : List ℕ) → position (λ b. b == s) xs ≡ None → Lacks s xs
lacks_all s xs none = elim (cases_Bool (nat_lt (position_or_len (λ b. b == s) xs) (length xs))) [
  | inl within ↦ absurd (cc (rw within at none))
  | inr past ↦
      let far : length xs ≤ position_or_len (λ b. b == s) xs = grind (arith, nat_tests, past) in
      subst (Lacks s) (take_all (length xs) xs (omega arith)) (lacks_up_to s (length xs) xs (λ k l m. fails_before_first (λ b. b == s) xs k 0 (omega arith)))
]

-- a text is what stands before the first such byte, that byte, and the rest
pub parts_at : (s n : ℕ) (xs : List ℕ) → position (λ b. b == s) xs ≡ Some n → xs ≡ take n xs ++ s ∷ take (length xs - (n + 1)) (drop (n + 1) xs)
parts_at s n xs at =
    let found = position-Some (λ b. b == s) xs n 0 at in
    let rest : take (length xs - (n + 1)) (drop (n + 1) xs) ≡ drop (n + 1) xs = take_all (length xs - (n + 1)) (drop (n + 1) xs) (omega (arith, length-drop (n + 1) xs)) in
    split_at xs n 0 found.0 ∙ ap (λ b. take n xs ++ b ∷ drop (suc n) xs) (eqb-true (get_or xs n 0) s found.1)
    ∙ ap (λ k. take n xs ++ s ∷ drop k xs) (sym (add-one n)) ∙ ap (λ l. take n xs ++ s ∷ l) (sym rest)
