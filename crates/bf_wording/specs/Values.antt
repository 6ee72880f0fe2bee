-- Values in a sentence.
use Rattle.std.specs.Prelude.{ℕ, nat_le, if◌then◌else◌, List, ◌++◌, Option, None, Some, codes, encode_utf8, length, take}
use Rattle.std.specs.List.{flat_map}
use Rattle.std.specs.Str.{chars}
use Rattle.bf_value.specs.declared.xval.Xval.{Xval}
use Rattle.bf_quoted.specs.Values.{shown}
use Rattle.bf_value.specs.Json.{json_of}
use Rattle.bf_wording.specs.Numbers.{number_text}

-- the first characters of a text, and how many it has
abbrev pub cut_text_with_count_of : List ℕ → ℕ → List ℕ
cut_text_with_count_of first count =
    flat_map encode_utf8 first ++ (codes "... (" ++ (number_text count ++ codes " characters)"))

-- of a text of more characters the first of them, and how many there are
abbrev pub cut : ℕ → List ℕ → List ℕ
cut most text =
    if nat_le (length (chars text)) most then text
    else cut_text_with_count_of (take most (chars text)) (length (chars text))

-- a value as JSON text that a terminal shows, or `nothing`
abbrev pub value_text_of : ℕ → Option Xval → List ℕ
value_text_of most None = codes "nothing"
value_text_of most (Some value) = cut most (shown (json_of value))
