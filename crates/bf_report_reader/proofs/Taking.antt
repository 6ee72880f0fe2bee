-- Lines that are held whole.
use Rattle.std.proofs.Common.{◌≡◌, ◌≤◌, ◌+◌, ◌-◌, ◌==◌, ℕ, suc, List, ◌∷◌, ◌++◌, length, get_or, take, drop, position, Some, sym, ap, ◌∙◌, subst, arith, add-one}
use Rattle.std.proofs.lemmas.Bool.{eqb-true}
use Rattle.std.proofs.lemmas.List.{length-take, length-take-le, length-drop, drop-take, take-take}
use Rattle.std.proofs.lemmas.List.Quantifiers.{position-Some}
use Rattle.std.proofs.Math.Seq.{split_at}
use Rattle.bf_report_reader.specs.Faults.{IsInLine, longest_line}
use Rattle.bf_report_reader.proofs.Splits.{lacks_before}
use Rattle.bf_report_reader.proofs.Words.{at_least}

-- a line and its line feed stand before the rest
pub line_taken : (bytes : List ℕ) (at : ℕ) → position (λ b. b == 10) bytes ≡ Some at → bytes ≡ take at bytes ++ 10 ∷ drop (at + 1) bytes
line_taken bytes at found =
    let (within, is, before) = position-Some (λ b. b == 10) bytes at 0 found in
    split_at bytes at 0 (omega (arith, within)) ∙ ap (λ b. take at bytes ++ b ∷ drop (suc at) bytes) (eqb-true (get_or bytes at 0) 10 is) ∙ ap (λ k. take at bytes ++ 10 ∷ drop k bytes) (sym (add-one at))

-- the bytes before the line feed are those of the room from where the line starts
pub line_held : (room : List ℕ) (start end at : ℕ) → end ≤ length room → start ≤ end → position (λ b. b == 10) (drop start (take end room)) ≡ Some at → drop start (take (start + at) room) ≡ take at (drop start (take end room))
line_held room start end at within in_order found =
    let (early, is, before) = position-Some (λ b. b == 10) (drop start (take end room)) at 0 found in
    let less : at ≤ end - start = omega (arith, early, length-drop start (take end room), length-take-le end room within) in
    let whole : start + (end - start) ≡ end = omega (arith, in_order) in
    drop-take start at room ∙ sym (take-take at (end - start) (drop start room) less) ∙ ap (take at) (sym (drop-take start (end - start) room) ∙ ap (λ k. drop start (take k room)) whole)

pub in_line_before : (bytes line : List ℕ) (at : ℕ) → position (λ b. b == 10) bytes ≡ Some at → line ≡ take at bytes → IsInLine line
in_line_before bytes line at found is = subst IsInLine (sym is) (lacks_before 10 at bytes found)

pub short_enough : (bytes line : List ℕ) (at : ℕ) → at ≤ 66_000 → line ≡ take at bytes → length line ≤ longest_line line
short_enough bytes line at few is = omega (arith, few, ap length is, length-take at bytes, at_least line)
