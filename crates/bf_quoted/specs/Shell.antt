-- What a shell reads of a word: bash, zsh, ksh and POSIX.1-2024, as far as bare bytes, `\`, `'..'` and `$'..'` go.
use Rattle.std.specs.Prelude.{ℕ, ◌+◌, ◌-◌, ◌*◌, ◌==◌, ◌||◌, Bool, if◌then◌else◌, List, [], ◌∷◌, ◌++◌, fold}
use Rattle.std.specs.Int.{is_in_range}
use Rattle.bf_quoted.specs.Words.{is_bare_byte_in}

-- where a shell is in a word, and what it has read so far
pub data Reading : Type 0 where
  bare : List ℕ → Reading
  behind_backslash : List ℕ → Reading
  behind_dollar : List ℕ → Reading
  in_quotes : List ℕ → Reading
  in_dollar_quotes : List ℕ → Reading
  in_escape : List ℕ → Reading
  behind_digit : ℕ → List ℕ → Reading
  behind_digits : ℕ → List ℕ → Reading
  not_read : Reading

abbrev pub is_octal : ℕ → Bool
is_octal b = is_in_range 48 55 b

-- one byte more
abbrev pub reads_on : Reading → ℕ → Reading
reads_on (bare word) b =
    if b == 39 then in_quotes word
    else (if b == 92 then behind_backslash word
    else (if b == 36 then behind_dollar word
    else (if is_bare_byte_in b then bare (word ++ b ∷ []) else not_read)))
reads_on (behind_backslash word) b = bare (word ++ b ∷ [])
reads_on (behind_dollar word) b = if b == 39 then in_dollar_quotes word else not_read
reads_on (in_quotes word) b = if b == 39 then bare word else in_quotes (word ++ b ∷ [])
reads_on (in_dollar_quotes word) b =
    if b == 39 then bare word
    else (if b == 92 then in_escape word else in_dollar_quotes (word ++ b ∷ []))
reads_on (in_escape word) b =
    if b == 39 || b == 92 then in_dollar_quotes (word ++ b ∷ [])
    else (if is_octal b then behind_digit (b - 48) word else not_read)
reads_on (behind_digit value word) b =
    if is_octal b then behind_digits (8 * value + (b - 48)) word else not_read
reads_on (behind_digits value word) b =
    if is_octal b then in_dollar_quotes (word ++ (8 * value + (b - 48)) ∷ []) else not_read
reads_on not_read b = not_read

-- a whole text
abbrev pub read_by_shell : List ℕ → Reading
read_by_shell text = fold reads_on (bare []) text
