-- What a grid is shown on where the line doesn't say.
use Rattle.std.specs.Prelude.{◌≡◌, ◌⊎◌, ◌≤◌, ◌==◌, ◌&&◌, ℕ, Bool, not, List, [], length, Option, None, Some, codes, unwrap_or}
use Rattle.std.specs.Str.{bytes_eq}
use Rattle.std.specs.Str.Parse.{IsNumeral, digits_value, without_leading_plus}

-- the text says a number of columns from 20 to 10,000
abbrev pub columns_said : List ℕ → ℕ
columns_said text = digits_value 10 (without_leading_plus text)

abbrev pub SaysColumns : List ℕ → Type 0
SaysColumns text =
    IsNumeral 10 (without_leading_plus text) × (20 ≤ columns_said text)
    × (columns_said text ≤ 10_000)

-- the width is what COLUMNS says, and else 80
abbrev pub IsWidthBy : Option (List ℕ) → ℕ → Type 0
IsWidthBy None width = width ≡ 80
IsWidthBy (Some text) width =
    (SaysColumns text × (width ≡ columns_said text)) ⊎ ((SaysColumns text → ⊥) × (width ≡ 80))

-- a terminal has colours where NO_COLOR is missing or empty, and TERM isn't `dumb`
abbrev pub has_colors_in : Bool → Option (List ℕ) → Option (List ℕ) → Bool
has_colors_in is_terminal no_color term =
    is_terminal && ((length (unwrap_or no_color []) == 0)
    && not (bytes_eq (unwrap_or term []) (codes "dumb")))
