-- A text in pieces, as it goes out.
use Rattle.std.specs.Prelude.{ℕ, ◌+◌, List, ◌++◌, length, map}
use Rattle.std.specs.List.{concat, flat_map}
use Rattle.std.specs.Borrow.{Bor}
use Rattle.bf_page.specs.declared.sending.Piece.{Piece}
use Rattle.bf_page.specs.declared.sending.Rest.{Rest}
use Rattle.bf_page.specs.Safe.{safe}

-- what is fixed, and what is told behind it
abbrev pub piece_text : Piece → List ℕ
piece_text piece = piece.fixed.now ++ safe piece.told.now

-- these pieces, and the last texts
abbrev pub whole : List Piece → List (Bor (List ℕ)) → List ℕ
whole pieces last = flat_map piece_text pieces ++ concat (map (λ text. text.now) last)

-- what stands behind the front: a text that is told, further pieces, and the last texts
abbrev pub behind : List ℕ → List Piece → List (Bor (List ℕ)) → List ℕ
behind told pieces last = safe told ++ whole pieces last

-- how many steps bring it to the front, at most
abbrev pub steps_behind : List ℕ → List Piece → List (Bor (List ℕ)) → ℕ
steps_behind told pieces last = length (behind told pieces last) + length pieces + length last

-- what is still to go out
abbrev pub left : Rest → List ℕ
left rest = rest.front.now ++ behind rest.told.now rest.pieces.now rest.last.now
