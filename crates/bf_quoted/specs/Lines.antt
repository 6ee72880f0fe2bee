-- A shell's line of words.
use Rattle.std.specs.Prelude.{ℕ, ◌==◌, if◌then◌else◌, List, [], ◌∷◌, ◌++◌, map, fold, Option, Some, None}
use Rattle.std.specs.List.{join_with_byte}
use Rattle.bf_quoted.specs.Words.{quoted}
use Rattle.bf_quoted.specs.Shell.{Reading, bare, reads_on}

-- the words, each quoted, with a space between
abbrev pub line_of : List (List ℕ) → List ℕ
line_of words = join_with_byte 32 (map quoted words)

-- the words that a shell has read of a line, and where it is in the next, if that has begun
pub record ReadLine : Type 0 where
  pub words : List (List ℕ)
  pub next : Option Reading

-- one byte more: spaces end a word, and none begins one
abbrev pub line_on : List (List ℕ) → Option Reading → ℕ → ReadLine
line_on words None b =
    if b == 32 then record { words = words; next = None }
    else record { words = words; next = Some (reads_on (bare []) b) }
line_on words (Some (bare word)) b =
    if b == 32 then record { words = words ++ word ∷ []; next = None }
    else record { words = words; next = Some (reads_on (bare word) b) }
line_on words (Some at) b = record { words = words; next = Some (reads_on at b) }

abbrev pub reads_line_on : ReadLine → ℕ → ReadLine
reads_line_on line b = line_on line.words line.next b

-- the words of a whole line, unless it breaks off in one
abbrev pub words_at_end : List (List ℕ) → Option Reading → Option (List (List ℕ))
words_at_end words None = Some words
words_at_end words (Some (bare word)) = Some (words ++ word ∷ [])
words_at_end words (Some at) = None

abbrev pub words_by_shell : List ℕ → Option (List (List ℕ))
words_by_shell text =
    let line =
    fold reads_line_on (record {
      words = [];
      next = None;
    }) text in words_at_end line.words line.next
