-- Bytes that are picked out of ASCII are ASCII.
use Rattle.std.proofs.Common.{ℕ, List, [], ◌∷◌, map, slice_index_or}
use Rattle.std.specs.Str.{IsAscii}
use Rattle.std.proofs.lemmas.Str.Ascii.{IsAscii-cons, IsAscii-nil}

pub picked_ascii : (bytes places : List ℕ) → IsAscii bytes → IsAscii (map (λ k. slice_index_or bytes k 0) places)
picked_ascii bytes [] ascii = IsAscii-nil
picked_ascii bytes (k ∷ places) ascii = IsAscii-cons _ _ (ascii k) (picked_ascii bytes places ascii)
