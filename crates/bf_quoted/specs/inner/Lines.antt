-- A shell's line of words.
use Rattle.std.specs.Prelude.{ℕ, ◌==◌, if◌then◌else◌, List, [], ◌∷◌}

-- what stands before the word in this place
abbrev pub gap : ℕ → List ℕ
gap place = if place == 0 then [] else 32 ∷ []
