-- What is found of a text of lines that is cut short.
use Rattle.std.proofs.Common.{◌≡◌, ◌≤◌, ◌<◌, ◌+◌, ◌-◌, ◌==◌, ◌||◌, ℕ, zero, suc, List, [], ◌∷◌, ◌++◌, Bool, true, false, length, take, nat_lt, true≢false, refl, sym, ap, ◌∙◌, subst, append_assoc, append-nil, inl, inr, arith}
use Rattle.std.specs.Prelude.{All}
use Rattle.std.specs.List.{list_any}
use Rattle.std.proofs.lemmas.Bool.{cases_Bool, eqb-true}
use Rattle.std.proofs.lemmas.Bool.Decides.{nat_tests}
use Rattle.std.proofs.lemmas.List.{take_at, take-append-le, length-append}
use Rattle.std.proofs.lemmas.List.Elements.{All-head, All-tail}
use Rattle.bf_journal.proofs.Going.{take_past}
use Rattle.bf_journal.specs.Lines.{lines_after, text_of_lines, whole_lines}
use Rattle.bf_journal.specs.inner.Lines.{IsInLine}

-- of the first n bytes of a text of lines, these are the lines that stand there whole: each of them does, and the next doesn't
pub record IsCutOf (lines : List (List ℕ)) (n : ℕ) (found : List (List ℕ)) : Type 0 where
  pub count : ℕ
  pub few : count ≤ length lines
  pub are : found ≡ take count lines
  pub each : length (text_of_lines (take count lines)) ≤ n
  pub none_more : count < length lines → n < length (text_of_lines (take (suc count) lines))

-- ---- whole lines

or_parts : (a b : Bool) → (a || b) ≡ false → (a ≡ false) × (b ≡ false)
or_parts true b e = absurd (true≢false e)
or_parts false b e = (refl, e)

first_parts : (x : ℕ) (xs : List ℕ) → IsInLine (x ∷ xs) → ((x == 10) ≡ false) × IsInLine xs
first_parts x xs e = or_parts (x == 10) (list_any (λ b. b == 10) xs) e

pub takes_line : (piece text rest : List ℕ) → IsInLine text → lines_after piece (text ++ 10 ∷ rest) ≡ (piece ++ text) ∷ lines_after [] rest
takes_line piece [] rest e = ap (λ l. l ∷ lines_after [] rest) (sym (append-nil piece))
takes_line piece (x ∷ xs) rest e =
    let (other, more) = first_parts x xs e in
    rw other (takes_line (piece ++ x ∷ []) xs rest more ∙ ap (λ l. l ∷ lines_after [] rest) (append_assoc piece (x ∷ []) xs))

pub takes_none : (piece text : List ℕ) → IsInLine text → lines_after piece text ≡ []
takes_none piece [] e = refl
takes_none piece (x ∷ xs) e = let (other, more) = first_parts x xs e in rw other (takes_none (piece ++ x ∷ []) xs more)

in_line_cut : (n : ℕ) (text : List ℕ) → IsInLine text → IsInLine (take n text)
in_line_cut zero text e = refl
in_line_cut (suc n) [] e = refl
in_line_cut (suc n) (x ∷ xs) e = let (other, more) = first_parts x xs e in rw other (in_line_cut n xs more)

-- cut within the first line
short : (line : List ℕ) (lines : List (List ℕ)) (n : ℕ) → IsInLine line → n ≤ length line → IsCutOf (line ∷ lines) n (whole_lines (take n (text_of_lines (line ∷ lines))))
short line lines n in_line few =
    let text = text_of_lines lines in
    let is : take n ((line ++ 10 ∷ []) ++ text) ≡ take n line = ap (take n) (append_assoc line (10 ∷ []) text) ∙ take-append-le n line (10 ∷ text) few in
    record {
      count = 0;
      few = omega arith;
      are = ap whole_lines is ∙ takes_none [] (take n line) (in_line_cut n line in_line);
      each = omega arith;
      none_more = λ _. omega (arith, few, length-append (line ++ 10 ∷ []) [], length-append line (10 ∷ []));
    }

-- cut behind the first line
long : (line : List ℕ) (lines : List (List ℕ)) (m : ℕ) → IsInLine line → IsCutOf lines m (whole_lines (take m (text_of_lines lines)))
    → IsCutOf (line ∷ lines) (length (line ++ 10 ∷ []) + m) (whole_lines (take (length (line ++ 10 ∷ []) + m) (text_of_lines (line ∷ lines))))
long line lines m in_line cut =
    let text = text_of_lines lines in
    let first = line ++ 10 ∷ [] in
    let is : take (length first + m) (first ++ text) ≡ line ++ 10 ∷ take m text = take_past first text m ∙ append_assoc line (10 ∷ []) (take m text) in
    let each : length (first ++ text_of_lines (take cut.count lines)) ≤ length first + m = omega (arith, cut.each, length-append first (text_of_lines (take cut.count lines))) in
    let next : suc cut.count < suc (length lines) → length first + m < length (first ++ text_of_lines (take (suc cut.count) lines)) =
    (λ less. omega (arith, cut.none_more (omega (arith, less)), length-append first (text_of_lines (take (suc cut.count) lines)))) in
    record {
      count = suc cut.count;
      few = omega (arith, cut.few);
      are = ap whole_lines is ∙ takes_line [] line (take m text) in_line ∙ ap (λ l. line ∷ l) cut.are;
      each = each;
      none_more = λ less. next less;
    }

pub cut : (lines : List (List ℕ)) → All IsInLine lines → (n : ℕ) → IsCutOf lines n (whole_lines (take n (text_of_lines lines)))
cut [] all zero = record { count = 0; few = omega arith; are = refl; each = omega arith; none_more = λ less. absurd (omega (arith, less)) }
cut [] all (suc n) = record { count = 0; few = omega arith; are = refl; each = omega arith; none_more = λ less. absurd (omega (arith, less)) }
cut (line ∷ lines) all n = elim (cases_Bool (nat_lt (length line) n)) [
  | inl past ↦
      let first = line ++ 10 ∷ [] in
      let m = n - length first in
      let whole : length first + m ≡ n = grind (arith, nat_tests, past, length-append line (10 ∷ [])) in
      subst (λ k. IsCutOf (line ∷ lines) k (whole_lines (take k (text_of_lines (line ∷ lines))))) whole (long line lines m (All-head IsInLine line lines all) (cut lines (All-tail IsInLine line lines all) m))
  | inr within ↦ short line lines n (All-head IsInLine line lines all) (grind (arith, nat_tests, within))
]

-- ---- whole lines at the front

-- what stands behind the whole lines
behind_lines : (piece bytes : List ℕ) → (rest : List ℕ) × (piece ++ bytes ≡ text_of_lines (lines_after piece bytes) ++ rest)
behind_lines piece [] = (piece, append-nil piece)
behind_lines piece (b ∷ bs) = elim (cases_Bool (b == 10)) as (λ _. (rest : List ℕ) × (piece ++ b ∷ bs ≡ text_of_lines (lines_after piece (b ∷ bs)) ++ rest)) [
  | inl feed ↦ rw feed (
      let (rest, is) = behind_lines [] bs in
      let line = piece ++ 10 ∷ [] in (
        rest,
        ap (λ x. piece ++ x ∷ bs) (eqb-true b 10 feed) ∙ sym (append_assoc piece (10 ∷ []) bs) ∙ ap (λ l. line ++ l) is
            ∙ sym (append_assoc line (text_of_lines (lines_after [] bs)) rest),
      ))
  | inr other ↦ rw other (
      let (rest, is) = behind_lines (piece ++ b ∷ []) bs in
      (rest, sym (append_assoc piece (b ∷ []) bs) ∙ is))
]

-- they stand at the front
pub front_lines : (bytes : List ℕ) → take (length (text_of_lines (whole_lines bytes))) bytes ≡ text_of_lines (whole_lines bytes)
front_lines bytes =
    let (rest, is) = behind_lines [] bytes in
    let lines = text_of_lines (whole_lines bytes) in
    ap (take (length lines)) is ∙ take_at lines rest (length lines) refl
