-- What two texts have in common, counted from one end.
use Rattle.std.proofs.Common.{◌≡◌, ◌≢◌, ◌⊎◌, ℕ, suc, ◌+◌, ◌-◌, ◌<◌, ◌≤◌, min, List, [], ◌∷◌, length, get_or, drop, drop-cons, reverse, add-one, refl, sym, ap, ◌∙◌, subst, ⊎_elim, arith, inl, inr}
use Rattle.std.proofs.lemmas.Bool.{cond-true, cond-false, ne_eqb, eq-eqb, cases_lt}
use Rattle.std.proofs.lemmas.List.{drop_all, get_or-reverse, length-reverse}
use Rattle.bf_findings.specs.Nearest.{shared}

past_one : (a b count : ℕ) → min a b ≤ count → (a ≤ count) ⊎ (b ≤ count)
past_one a b count past = elim (cases_lt count a) as (λ _. (a ≤ count) ⊎ (b ≤ count)) [
  | inl before ↦ inr (omega (arith, before, past))
  | inr behind ↦ inl behind
]

none_of : (ys : List ℕ) → shared [] ys ≡ 0
unfolding shared
none_of ys = refl

of_none : (xs : List ℕ) → shared xs [] ≡ 0
unfolding shared
of_none [] = refl
of_none (x ∷ xs) = refl

same_first : (x y : ℕ) (xs ys : List ℕ) → x ≡ y → shared (x ∷ xs) (y ∷ ys) ≡ suc (shared xs ys)
unfolding shared
same_first x y xs ys e = cond-true _ _ _ (eq-eqb x y e)

other_first : (x y : ℕ) (xs ys : List ℕ) → x ≢ y → shared (x ∷ xs) (y ∷ ys) ≡ 0
unfolding shared
other_first x y xs ys ne = cond-false _ _ _ (ne_eqb x y ne)

-- one more that is the same
pub one_more_shared : (xs ys : List ℕ) (count : ℕ) (d e : ℕ) → count < length xs → count < length ys → get_or xs count d ≡ get_or ys count e
    → shared xs ys ≡ count + shared (drop count xs) (drop count ys) → shared xs ys ≡ (count + 1) + shared (drop (count + 1) xs) (drop (count + 1) ys)
one_more_shared xs ys count d e in_xs in_ys same is =
    let of_xs : drop count xs ≡ get_or xs count d ∷ drop (count + 1) xs = rw add-one (drop-cons xs count d in_xs) in
    let of_ys : drop count ys ≡ get_or ys count e ∷ drop (count + 1) ys = rw add-one (drop-cons ys count e in_ys) in
    let step = ap (λ zs. shared zs (drop count ys)) of_xs ∙ ap (shared (get_or xs count d ∷ drop (count + 1) xs)) of_ys ∙ same_first _ _ (drop (count + 1) xs) (drop (count + 1) ys) same in
    omega (arith, is, step)

-- the next is another
pub no_more_shared : (xs ys : List ℕ) (count : ℕ) (d e : ℕ) → count < length xs → count < length ys → get_or xs count d ≢ get_or ys count e
    → shared xs ys ≡ count + shared (drop count xs) (drop count ys) → count ≡ shared xs ys
no_more_shared xs ys count d e in_xs in_ys other is =
    let of_xs : drop count xs ≡ get_or xs count d ∷ drop (count + 1) xs = rw add-one (drop-cons xs count d in_xs) in
    let of_ys : drop count ys ≡ get_or ys count e ∷ drop (count + 1) ys = rw add-one (drop-cons ys count e in_ys) in
    let step = ap (λ zs. shared zs (drop count ys)) of_xs ∙ ap (shared (get_or xs count d ∷ drop (count + 1) xs)) of_ys ∙ other_first _ _ (drop (count + 1) xs) (drop (count + 1) ys) other in
    omega (arith, is, step)

first_ended : (xs ys : List ℕ) (count : ℕ) → length xs ≤ count → shared xs ys ≡ count + shared (drop count xs) (drop count ys) → count ≡ shared xs ys
first_ended xs ys count past is =
    let step = ap (λ zs. shared zs (drop count ys)) (drop_all count xs past) ∙ none_of (drop count ys) in
    omega (arith, is, step)

second_ended : (xs ys : List ℕ) (count : ℕ) → length ys ≤ count → shared xs ys ≡ count + shared (drop count xs) (drop count ys) → count ≡ shared xs ys
second_ended xs ys count past is =
    let step = ap (shared (drop count xs)) (drop_all count ys past) ∙ of_none (drop count xs) in
    omega (arith, is, step)

-- one of them is at its end
pub ended : (xs ys : List ℕ) (count : ℕ) → min (length xs) (length ys) ≤ count → shared xs ys ≡ count + shared (drop count xs) (drop count ys) → count ≡ shared xs ys
ended xs ys count past is = ⊎_elim
    (λ first. first_ended xs ys count first is)
    (λ second. second_ended xs ys count second is)
    (past_one (length xs) (length ys) count past)

-- ---- the same from the end

pub one_more_at_end : (xs ys : List ℕ) (count : ℕ) (d e : ℕ) → count < length xs → count < length ys → get_or xs (length xs - 1 - count) d ≡ get_or ys (length ys - 1 - count) e
    → shared (reverse xs) (reverse ys) ≡ count + shared (drop count (reverse xs)) (drop count (reverse ys))
    → shared (reverse xs) (reverse ys) ≡ (count + 1) + shared (drop (count + 1) (reverse xs)) (drop (count + 1) (reverse ys))
one_more_at_end xs ys count d e in_xs in_ys same is =
    one_more_shared (reverse xs) (reverse ys) count d e (omega (arith, in_xs, length-reverse xs)) (omega (arith, in_ys, length-reverse ys))
    (get_or-reverse xs count d in_xs ∙ same ∙ sym (get_or-reverse ys count e in_ys)) is

pub no_more_at_end : (xs ys : List ℕ) (count : ℕ) (d e : ℕ) → count < length xs → count < length ys → get_or xs (length xs - 1 - count) d ≢ get_or ys (length ys - 1 - count) e
    → shared (reverse xs) (reverse ys) ≡ count + shared (drop count (reverse xs)) (drop count (reverse ys)) → count ≡ shared (reverse xs) (reverse ys)
no_more_at_end xs ys count d e in_xs in_ys other is =
    no_more_shared (reverse xs) (reverse ys) count d e (omega (arith, in_xs, length-reverse xs)) (omega (arith, in_ys, length-reverse ys))
    (λ same. other (sym (get_or-reverse xs count d in_xs) ∙ same ∙ get_or-reverse ys count e in_ys)) is

pub ended_at_end : (xs ys : List ℕ) (count : ℕ) → min (length xs) (length ys) ≤ count → shared (reverse xs) (reverse ys) ≡ count + shared (drop count (reverse xs)) (drop count (reverse ys))
    → count ≡ shared (reverse xs) (reverse ys)
ended_at_end xs ys count past is = ended (reverse xs) (reverse ys) count (subst (λ n. min n (length (reverse ys)) ≤ count) (sym (length-reverse xs)) (subst (λ n. min (length xs) n ≤ count) (sym (length-reverse ys)) past)) is
