-- A word of a shell's line.
use Rattle.std.specs.Prelude.{ℕ, ◌+◌, ◌/◌, ◌%◌, ◌==◌, ◌&&◌, ◌||◌, not, nat_le, Bool, if◌then◌else◌, List, [], ◌∷◌, ◌++◌, length, codes, encode_utf8}
use Rattle.std.specs.Char.{is_ascii_alphanumeric}
use Rattle.std.specs.List.{flat_map, list_any, list_all}
use Rattle.std.specs.Str.{bytes_eq, chars}
use Rattle.bf_quoted.specs.Seen.{is_unseen_in}

-- a letter, a digit, or one of these
abbrev pub is_bare_byte_in : ℕ → Bool
is_bare_byte_in b = is_ascii_alphanumeric b || list_any (λ c. c == b) (codes "_@+:,./-")

-- words that a shell doesn't take for the name of a program
abbrev pub reserved_words : List (List ℕ)
reserved_words =
    codes "case" ∷ codes "coproc" ∷ codes "do" ∷ codes "done" ∷ codes "elif" ∷ codes "else"
    ∷ codes "esac" ∷ codes "fi"
    ∷ codes "for" ∷ codes "function" ∷ codes "if" ∷ codes "in" ∷ codes "select" ∷ codes "then"
    ∷ codes "time"
    ∷ codes "until" ∷ codes "while" ∷ []

-- the word stands as it is
abbrev pub is_bare_word_in : List ℕ → Bool
is_bare_word_in word =
    nat_le 1 (length word) && list_all is_bare_byte_in word
    && not (list_any (λ reserved. bytes_eq reserved word) reserved_words)

-- a character in `'..'`, where a `'` ends the quotes, and begins others behind it
abbrev pub quoted_char : ℕ → List ℕ
quoted_char c = if c == 39 then codes "'\\''" else encode_utf8 c

-- a byte as a backslash and three octal digits
abbrev pub octal : ℕ → List ℕ
octal b = 92 ∷ (48 + b / 64) ∷ (48 + b / 8 % 8) ∷ (48 + b % 8) ∷ []

-- a character in `$'..'`: one that isn't seen stands byte by byte
abbrev pub escaped_char : ℕ → List ℕ
escaped_char c =
    if is_unseen_in c then flat_map octal (encode_utf8 c)
    else (if c == 39 || c == 92 then 92 ∷ encode_utf8 c else encode_utf8 c)

-- a word as it is, in `'..'`, or in `$'..'` where not all of it is seen
abbrev pub quoted : List ℕ → List ℕ
quoted word =
    if is_bare_word_in word then word
    else (if list_any is_unseen_in (chars word)
    then codes "$'" ++ (flat_map escaped_char (chars word) ++ codes "'")
    else codes "'" ++ (flat_map quoted_char (chars word) ++ codes "'"))
