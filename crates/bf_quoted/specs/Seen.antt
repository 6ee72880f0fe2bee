-- Characters that a terminal doesn't show as themselves.
use Rattle.std.specs.Prelude.{ℕ, Bool, List, [], ◌∷◌}
use Rattle.std.specs.Int.{is_in_range}
use Rattle.std.specs.List.{list_any}

-- Unicode 16's general categories Cc (controls), Cf (format characters), Zl and Zp (separators of lines and paragraphs), and its
-- property Default_Ignorable_Code_Point (no width, variation selectors, tags): the first and the last character of each stretch
abbrev pub unseen_stretches : List (ℕ × ℕ)
unseen_stretches =
    (0x0, 0x1F) ∷ (0x7F, 0x9F) ∷ (0xAD, 0xAD) ∷ (0x34F, 0x34F) ∷ (0x600, 0x605) ∷ (0x61C, 0x61C)
    ∷ (0x6DD, 0x6DD) ∷ (0x70F, 0x70F) ∷ (0x890, 0x891) ∷ (0x8E2, 0x8E2) ∷ (0x115F, 0x1160)
    ∷ (0x17B4, 0x17B5) ∷ (0x180B, 0x180F) ∷ (0x200B, 0x200F) ∷ (0x2028, 0x202E)
    ∷ (0x2060, 0x206F) ∷ (0x3164, 0x3164) ∷ (0xFE00, 0xFE0F) ∷ (0xFEFF, 0xFEFF)
    ∷ (0xFFA0, 0xFFA0) ∷ (0xFFF0, 0xFFFB) ∷ (0x110BD, 0x110BD) ∷ (0x110CD, 0x110CD)
    ∷ (0x13430, 0x1343F) ∷ (0x1BCA0, 0x1BCA3) ∷ (0x1D173, 0x1D17A) ∷ (0xE0000, 0xE0FFF) ∷ []

unfoldable pub is_unseen_in : ℕ → Bool
is_unseen_in c = list_any (λ stretch. is_in_range stretch.0 stretch.1 c) unseen_stretches
