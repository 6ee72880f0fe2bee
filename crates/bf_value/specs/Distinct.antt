-- Texts of which no two are equal.
use Rattle.std.specs.Prelude.{◌≢◌, ℕ, List, AllPairs}

-- no text stands there twice
abbrev pub AreDistinct : List (List ℕ) → Type 0
AreDistinct texts = AllPairs (λ a b. a ≢ b) texts
