-- Spaces, one more at a time.
use Rattle.std.proofs.Common.{◌≡◌, ℕ, zero, suc, ◌+◌, List, [], ◌∷◌, ◌++◌, refl, ap, ◌∙◌, append_assoc, arith}
use Rattle.std.specs.List.{repeat}

abbrev space : List ℕ
space = 32 ∷ []

one_behind : (n : ℕ) → repeat n space ++ space ≡ repeat (suc n) space
one_behind zero = refl
one_behind (suc n) = ap (λ (rest : List ℕ). 32 ∷ rest) (one_behind n)

pub one_more : (before : List ℕ) (n : ℕ) → (before ++ repeat n space) ++ space ≡ before ++ repeat (n + 1) space
one_more before n =
    let next : suc n ≡ n + 1 = omega arith in
    append_assoc before (repeat n space) space ∙ ap (λ rest. before ++ rest) (one_behind n ∙ ap (λ k. repeat k space) next)
