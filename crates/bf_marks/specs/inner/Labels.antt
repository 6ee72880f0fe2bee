-- What columns are labelled by: the group that a column stands in, and two digits in that.
use Rattle.std.specs.Prelude.{ℕ, ◌+◌, if◌then◌else◌, List, [], ◌∷◌}
use Rattle.std.specs.Str.{bytes_eq}

-- ---- the lines above the rows

-- how many at the front are this one
abbrev pub same_first : List ℕ → List (List ℕ) → ℕ
same_first group [] = 0
same_first group (first ∷ rest) = if bytes_eq first group then same_first group rest + 1 else 0
