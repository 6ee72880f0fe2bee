-- Numbers as people read them.
use Rattle.std.specs.Prelude.{ℕ, ◌%◌, ◌==◌, ◌&&◌, not, if◌then◌else◌, List, [], ◌∷◌, ◌++◌, codes, decimal, length}

-- digits with a comma between each three, counted from the last
abbrev pub with_commas : List ℕ → List ℕ
with_commas [] = []
with_commas (digit ∷ digits) =
    if length digits % 3 == 0 && not (length digits == 0) then digit ∷ 44 ∷ with_commas digits
    else digit ∷ with_commas digits

-- as 8,192,000
abbrev pub number_text : ℕ → List ℕ
number_text n = with_commas (decimal n)

-- as `1 run` and `2 runs`
abbrev pub count_text_of : ℕ → List ℕ → List ℕ
count_text_of n one = number_text n ++ 32 ∷ (one ++ (if n == 1 then [] else codes "s"))
