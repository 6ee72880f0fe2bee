-- How a text stands between the tags of a page.
use Rattle.std.specs.Prelude.{◌≢◌, ℕ, ◌==◌, ◌||◌, Bool, if◌then◌else◌, List, [], ◌∷◌, codes}
use Rattle.std.specs.Char.{is_ascii_alphanumeric}
use Rattle.std.specs.List.{flat_map, list_any}
use Rattle.percent_encoding.specs.Percent.{percent_decode}

-- a byte: `%`, `<`, carriage return and U+0000 as `%` and two digits, any other as itself
abbrev pub safe_byte : ℕ → List ℕ
safe_byte b =
    if b == 37 then codes "%25"
    else (if b == 60 then codes "%3C"
    else (if b == 13 then codes "%0D"
    else (if b == 0 then codes "%00" else b ∷ [])))

-- a text, byte by byte
abbrev pub safe : List ℕ → List ℕ
safe text = flat_map safe_byte text

-- what such a text says: percent-decoding, as `decodeURIComponent` does it in the page
abbrev pub plain : List ℕ → List ℕ
plain text = percent_decode text

-- a tag or a comment begins here, if anywhere
abbrev pub is_tag : ℕ → Bool
is_tag b = b == 60

-- a byte that begins no tag, and that a browser doesn't change
abbrev pub IsTame : ℕ → Type 0
IsTame b = (b ≢ 60) × (b ≢ 13) × (b ≢ 0)

-- a byte of a page's cells: a letter, a digit, one of `@ - : . _`, a space or a line feed
abbrev pub is_cell_byte : ℕ → Bool
is_cell_byte b = is_ascii_alphanumeric b || list_any (λ c. b == c) (codes "@-:._ \n")
