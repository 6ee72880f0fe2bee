-- Names in a sentence.
use Rattle.std.specs.Prelude.{ℕ, ◌+◌, ◌-◌, nat_lt, if◌then◌else◌, List, [], ◌∷◌, ◌++◌, codes, length, take}
use Rattle.bf_wording.specs.Numbers.{number_text}

-- the names behind the first, as `, b and c`
abbrev pub behind_first : List (List ℕ) → List ℕ
behind_first [] = []
behind_first (last ∷ []) = codes " and " ++ last
behind_first (name ∷ next ∷ rest) = codes ", " ++ (name ++ behind_first (next ∷ rest))

-- as `a`, `a and b`, `a, b and c`
abbrev pub joined : List (List ℕ) → List ℕ
joined [] = []
joined (first ∷ rest) = first ++ behind_first rest

-- of two or more above so many just these, and how many more there are
abbrev pub shortened_names_of : ℕ → List (List ℕ) → List (List ℕ)
shortened_names_of most names =
    if nat_lt (most + 1) (length names) then take most names
    ++ (number_text (length names - most) ++ codes " more") ∷ [] else names

abbrev pub name_list_of : ℕ → List (List ℕ) → List ℕ
name_list_of most names = joined (shortened_names_of most names)
