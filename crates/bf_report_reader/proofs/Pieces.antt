-- Lines that come in pieces.
use Rattle.std.proofs.Common.{◌≡◌, ◌≤◌, ◌<◌, ◌+◌, ◌==◌, ℕ, List, [], ◌∷◌, ◌++◌, length, get_or, take, drop, true, false, true≢false, position, Option, Some, None, sym, ap, ◌∙◌, subst, append_assoc, arith, add-one, suc}
use Rattle.std.specs.Io.KnownBytes.{prepend_known, Consumes}
use Rattle.std.proofs.lemmas.Bool.{eqb-true}
use Rattle.std.proofs.lemmas.List.{length-append, length-take, length-take-le, get_or-take, take-take, take-append-drop, append-nil}
use Rattle.std.proofs.lemmas.List.Quantifiers.{position-Some}
use Rattle.std.proofs.Math.Seq.{split_at}
use Rattle.bf_value.proofs.LackLemmas.{lacks_append}
use Rattle.bf_report_reader.specs.Faults.{IsInLine, longest_line}
use Rattle.bf_report_reader.specs.inner.Held.{MovesPiece}
use Rattle.bf_report_reader.proofs.HeldFacts.{consumes_first, consumes_more}
use Rattle.bf_report_reader.proofs.Splits.{lacks_before, lacks_all}
use Rattle.bf_report_reader.proofs.Words.{limit_append}

-- the line feed stands among the first of the bytes
pub moves_to_end : (most at : ℕ) (bytes new line longer : List ℕ) → length line + most ≤ longest_line line + 1 → position (λ b. b == 10) (take most bytes) ≡ Some at → new ≡ drop (at + 1) bytes → longer ≡ line ++ take at (take most bytes)
    → MovesPiece true bytes new line longer
moves_to_end most at bytes new line longer fits found left added =
    let (within, is, before) = position-Some (λ b. b == 10) (take most bytes) at 0 found in
    let size = length-take most bytes in
    let early : at < most = omega (arith, within, size) in
    let inside : at < length bytes = omega (arith, within, size) in
    let byte : get_or bytes at 0 ≡ 10 = sym (get_or-take most bytes at 0 early) ∙ eqb-true (get_or (take most bytes) at 0) 10 is in
    record {
      piece = take at (take most bytes);
      taken = split_at bytes at 0 inside ∙ ap (λ b. take at bytes ++ b ∷ drop (suc at) bytes) byte ∙ ap (λ l. take at bytes ++ 10 ∷ l) (ap (λ k. drop k bytes) (sym (add-one at)) ∙ sym left)
          ∙ ap (λ l. l ++ 10 ∷ new) (sym (take-take at most bytes (omega (arith, early))));
      added = added;
      in_line = lacks_before 10 at (take most bytes) found;
      few = omega (arith, ap length added, length-append line (take at (take most bytes)), length-take at (take most bytes), early, fits);
      some = λ some going_on. absurd (true≢false going_on);
    }

-- none stands there
pub moves_on : (most : ℕ) (bytes new line longer : List ℕ) → most ≤ length bytes → (0 < length bytes → 0 < most) → length line + most ≤ longest_line line + 1 → position (λ b. b == 10) (take most bytes) ≡ None
    → new ≡ drop (length (take most bytes)) bytes → longer ≡ line ++ take most bytes → MovesPiece false bytes new line longer
moves_on most bytes new line longer within some fits none left added = record {
  piece = take most bytes;
  taken = sym (take-append-drop most bytes) ∙ ap (λ l. take most bytes ++ l) (ap (λ k. drop k bytes) (sym (length-take-le most bytes within)) ∙ sym left);
  added = added;
  in_line = lacks_all 10 (take most bytes) none;
  few = omega (arith, ap length added, length-append line (take most bytes), length-take-le most bytes within, fits);
  some = λ held going_on. omega (arith, length-take-le most bytes within, some held);
}

-- what came of a line with a piece of it
came_with : (a b left : Option (List ℕ)) (old new line piece longer rest : List ℕ) → Consumes a b line → Consumes b (prepend_known old left) [] → old ≡ (piece ++ rest) ++ new → longer ≡ line ++ piece → Consumes a (prepend_known new left) (longer ++ rest)
came_with a b left old new line piece longer rest came held is added =
    let all = consumes_more a (prepend_known old left) (prepend_known new left) _ (piece ++ rest) (consumes_more a b (prepend_known old left) line [] came held) (consumes_first old (piece ++ rest) new left is) in
    let same : (line ++ []) ++ (piece ++ rest) ≡ longer ++ rest = ap (λ l. l ++ (piece ++ rest)) (append-nil line) ∙ sym (append_assoc line piece rest) ∙ ap (λ l. l ++ rest) (sym added) in
    subst (Consumes a (prepend_known new left)) same all

-- a line has come on by a piece
pub came_on : (a b left : Option (List ℕ)) (old new line longer : List ℕ) → Consumes a b line → Consumes b (prepend_known old left) [] → IsInLine line → MovesPiece false old new line longer
    → Consumes a (prepend_known new left) longer × IsInLine longer × (length longer ≤ longest_line longer + 1)
came_on a b left old new line longer came held in_line moves = (
  subst (Consumes a (prepend_known new left)) (append-nil longer) (came_with a b left old new line moves.piece longer [] came held (moves.taken ∙ ap (λ l. l ++ new) (sym (append-nil moves.piece))) moves.added),
  subst IsInLine (sym moves.added) (lacks_append 10 line moves.piece in_line moves.in_line),
  omega (arith, moves.few, limit_append line moves.piece, ap longest_line moves.added),
)

-- and has ended
pub came_to_end : (a b left : Option (List ℕ)) (old new line longer : List ℕ) → Consumes a b line → Consumes b (prepend_known old left) [] → IsInLine line → MovesPiece true old new line longer
    → Consumes a (prepend_known new left) (longer ++ 10 ∷ []) × IsInLine longer × (length longer ≤ longest_line longer)
came_to_end a b left old new line longer came held in_line moves = (
  came_with a b left old new line moves.piece longer (10 ∷ []) came held (moves.taken ∙ sym (append_assoc moves.piece (10 ∷ []) new)) moves.added,
  subst IsInLine (sym moves.added) (lacks_append 10 line moves.piece in_line moves.in_line),
  omega (arith, moves.few, limit_append line moves.piece, ap longest_line moves.added),
)
