-- JSON text on a terminal.
use Rattle.std.specs.Prelude.{ℕ, ◌+◌, ◌-◌, ◌/◌, ◌%◌, ◌==◌, nat_lt, if◌then◌else◌, List, [], ◌∷◌, ◌++◌, encode_utf8}
use Rattle.std.specs.Char.{digit_char}
use Rattle.std.specs.List.{flat_map}
use Rattle.std.specs.Str.{chars}
use Rattle.bf_quoted.specs.Seen.{is_unseen_in}

-- the escape of a number below 65,536: `\u` and four digits of base 16
abbrev pub escape : ℕ → List ℕ
escape c =
    92 ∷ 117 ∷ digit_char (c / 4_096) ∷ digit_char (c / 256 % 16) ∷ digit_char (c / 16 % 16)
    ∷ digit_char (c % 16) ∷ []

-- JSON's escape of a character: past 65,535 those of the two halves of its surrogate pair
abbrev pub escape_of : ℕ → List ℕ
escape_of c =
    if nat_lt c 65_536 then escape c
    else (escape (0xD7C0 + c / 1_024) ++ escape (0xDC00 + c % 1_024))

-- a character of a string
abbrev pub shown_char : ℕ → List ℕ
shown_char c = if is_unseen_in c then escape_of c else encode_utf8 c

-- compact JSON text, whose strings alone have characters that aren't seen
abbrev pub shown : List ℕ → List ℕ
shown text = flat_map shown_char (chars text)

-- a character of a text of several lines
abbrev pub shown_in_lines : ℕ → List ℕ
shown_in_lines c = if c == 10 then encode_utf8 c else shown_char c

-- a text of several lines
abbrev pub shown_lines : List ℕ → List ℕ
shown_lines text = flat_map shown_in_lines (chars text)
