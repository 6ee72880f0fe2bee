-- Lines, of which each counts once its line feed is there.
use Rattle.std.specs.Prelude.{ℕ, ◌==◌, List, [], ◌∷◌, ◌++◌, if◌then◌else◌}
use Rattle.std.specs.List.{flat_map}

-- lines, each with its line feed
abbrev pub text_of_lines : List (List ℕ) → List ℕ
text_of_lines lines = flat_map (λ line. line ++ 10 ∷ []) lines

-- the lines of bytes behind a piece of a line; what stands behind the last line feed is none
abbrev pub lines_after : List ℕ → List ℕ → List (List ℕ)
lines_after piece [] = []
lines_after piece (byte ∷ bytes) =
    if byte == 10 then piece ∷ lines_after [] bytes else lines_after (piece ++ byte ∷ []) bytes

-- the lines of bytes that have their line feed
abbrev pub whole_lines : List ℕ → List (List ℕ)
whole_lines bytes = lines_after [] bytes
