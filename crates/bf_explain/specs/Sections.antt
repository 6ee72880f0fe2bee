-- Headings, and what belongs to them.
use Rattle.std.specs.Prelude.{ℕ, List, [], ◌∷◌, ◌++◌, codes, map}
use Rattle.std.specs.List.{flat_map}

abbrev pub indented_of : List ℕ → List ℕ
indented_of line = codes "  " ++ line

-- a heading with lines that belong to it, each indented by two; nothing where there are none
abbrev pub section : List ℕ → List (List ℕ) → List (List ℕ)
section heading [] = []
section heading (line ∷ lines) = heading ∷ map indented_of (line ∷ lines)

-- each line ends with a line feed
abbrev pub lines_text_of : List (List ℕ) → List ℕ
lines_text_of lines = flat_map (λ line. line ++ codes "\n") lines
