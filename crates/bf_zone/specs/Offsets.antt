-- Offsets as texts.
use Rattle.std.specs.Prelude.{ℕ, ◌+◌, ◌-◌, ◌*◌, ◌/◌, ◌%◌, ◌≤◌, ◌&&◌, ℤ, pos, neg_ℤ, List, [], ◌∷◌, ◌++◌, Option, Some, None, nat_le, if◌then◌else◌, ◌==◌}

-- two digits
abbrev pub digits : ℕ → ℕ → Option ℕ
digits a b =
    if nat_le 48 a && nat_le a 57 && nat_le 48 b && nat_le b 57 then Some (10 * (a - 48) + (b - 48))
    else None

-- hours from 0 to 23 and minutes from 0 to 59, in seconds
abbrev pub clock_seconds : Option ℕ → Option ℕ → Option ℕ
clock_seconds None m = None
clock_seconds (Some h) None = None
clock_seconds (Some h) (Some m) =
    if nat_le h 23 && nat_le m 59 then Some (h * 3_600 + m * 60) else None

-- ahead of UTC after `+`, behind it after `-`
abbrev pub signed : ℕ → Option ℕ → Option ℤ
signed sign None = None
signed sign (Some n) =
    if sign == 43 then Some (pos n) else (if sign == 45 then Some (neg_ℤ (pos n)) else None)

-- the seconds of `+HH:MM` and `-HH:MM`
abbrev pub offset_of : List ℕ → Option ℤ
offset_of (sign ∷ a ∷ b ∷ colon ∷ c ∷ d ∷ []) =
    if colon == 58 then signed sign (clock_seconds (digits a b) (digits c d)) else None
offset_of text = None

-- two digits of a number
abbrev pub two : ℕ → List ℕ
two n = (48 + n / 10) ∷ (48 + n % 10) ∷ []

-- `+HH:MM` and `-HH:MM` as they are written
pub data IsOffsetText : List ℕ → ℤ → Type 0 where
  ahead : (h m : ℕ) → h ≤ 23 → m ≤ 59
      → IsOffsetText (43 ∷ two h ++ 58 ∷ two m) (pos (h * 3_600 + m * 60))
  behind : (h m : ℕ) → h ≤ 23 → m ≤ 59
      → IsOffsetText (45 ∷ two h ++ 58 ∷ two m) (neg_ℤ (pos (h * 3_600 + m * 60)))
