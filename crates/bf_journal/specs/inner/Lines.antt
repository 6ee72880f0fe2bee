-- Lines, of which each counts once its line feed is there.
use Rattle.std.specs.Prelude.{◌≡◌, ℕ, ◌==◌, false, List}
use Rattle.std.specs.List.{list_any}

-- text within one line
abbrev pub IsInLine : List ℕ → Type 0
IsInLine text = list_any (λ byte. byte == 10) text ≡ false
