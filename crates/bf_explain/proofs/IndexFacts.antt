-- Indexes, one more at a time.
use Rattle.std.proofs.Common.{◌≡◌, ◌+◌, ℕ, zero, suc, Bool, true, false, if◌then◌else◌, List, [], ◌∷◌, ◌++◌, filter, sym, ap, ◌∙◌, append_assoc, append-nil, arith}
use Rattle.std.specs.List.{flat_map, range_with_len}
use Rattle.std.proofs.lemmas.List.Concat.{flat_map-append}
use Rattle.std.proofs.lemmas.List.Elements.{filter-append}

range_more : (a n : ℕ) → range_with_len a (n + 1) ≡ range_with_len a n ++ (a + n) ∷ []
range_more a zero = let same : a ≡ a + 0 = omega arith in ap (λ k. k ∷ []) same
range_more a (suc n) =
    let more : suc n + 1 ≡ suc (n + 1) = omega arith in
    let same : a + 1 + n ≡ a + suc n = omega arith in
    ap (range_with_len a) more ∙ ap (λ xs. a ∷ xs) (range_more (a + 1) n ∙ ap (λ k. range_with_len (a + 1) n ++ k ∷ []) same)

pub one_index_more : (one : ℕ → List ℕ) (before : List ℕ) (n : ℕ) →
    (before ++ flat_map one (range_with_len 0 n)) ++ one n ≡ before ++ flat_map one (range_with_len 0 (n + 1))
one_index_more one before n =
    let same : 0 + n ≡ n = omega arith in
    let more : flat_map one (range_with_len 0 (n + 1)) ≡ flat_map one (range_with_len 0 n) ++ one n =
    ap (flat_map one) (range_more 0 n ∙ ap (λ k. range_with_len 0 n ++ k ∷ []) same)
    ∙ flat_map-append one (range_with_len 0 n) (n ∷ []) ∙ ap (λ xs. flat_map one (range_with_len 0 n) ++ xs) (append-nil (one n)) in
    append_assoc before (flat_map one (range_with_len 0 n)) (one n) ∙ ap (λ xs. before ++ xs) (sym more)

-- one number more is looked at, and is kept, or not
looked_at : (p : ℕ → Bool) (n : ℕ) → filter p (range_with_len 0 (n + 1)) ≡ filter p (range_with_len 0 n) ++ (if p n then n ∷ [] else [])
looked_at p n =
    let same : 0 + n ≡ n = omega arith in
    ap (filter p) (range_more 0 n ∙ ap (λ k. range_with_len 0 n ++ k ∷ []) same) ∙ filter-append p (range_with_len 0 n) (n ∷ [])

pub one_kept : (p : ℕ → Bool) (n : ℕ) → p n ≡ true → filter p (range_with_len 0 (n + 1)) ≡ filter p (range_with_len 0 n) ++ n ∷ []
one_kept p n kept = looked_at p n ∙ ap (λ b. filter p (range_with_len 0 n) ++ (if b then n ∷ [] else [])) kept

pub none_kept : (p : ℕ → Bool) (n : ℕ) → p n ≡ false → filter p (range_with_len 0 (n + 1)) ≡ filter p (range_with_len 0 n)
none_kept p n left =
    looked_at p n ∙ ap (λ b. filter p (range_with_len 0 n) ++ (if b then n ∷ [] else [])) left ∙ append-nil (filter p (range_with_len 0 n))
