-- Which of some names is nearest to a text.
use Rattle.std.specs.Prelude.{◌≡◌, ℕ, List, Option, Some, None, Contains}
use Rattle.bf_findings.specs.declared.nearest.Found.{Found}
use Rattle.bf_findings.specs.Nearest.{IsNearest, changes_to}

-- the nearest of some names, if one is near
abbrev pub IsBest : List ℕ → List (List ℕ) → Option Found → Type 0
IsBest text names None = (name : List ℕ) → Contains names name → changes_to text name ≡ None
IsBest text names (Some found) = IsNearest text names found.name.now found.changes
