-- What is read of a journal that was cut short.
use Rattle.std.proofs.Common.{◌≡◌, ◌≤◌, ◌<◌, ℕ, zero, suc, List, [], ◌∷◌, length, take, map, Some, refl, ap, ◌∙◌, subst, arith}
use Rattle.std.specs.Prelude.{All}
use Rattle.std.proofs.lemmas.List.{length-map}
use Rattle.std.proofs.lemmas.List.Elements.{All-head, All-tail, All-nil, All-cons}
use Rattle.bf_value.specs.declared.xval.Xval.{Xval}
use Rattle.bf_value.specs.Json.{json_of, value_of_text}
use Rattle.bf_value.proofs.LackLemmas.{text_lacks}
use Rattle.bf_value.proofs.TextLemmas.{value_of_text_text_of}
use Rattle.bf_journal.specs.Lines.{text_of_lines, whole_lines}
use Rattle.bf_journal.specs.inner.Lines.{IsInLine}
use Rattle.bf_journal.specs.Records.{IsTellable}
use Rattle.bf_journal.specs.Cuts.{ReadsWholeOnes}
use Rattle.bf_journal.proofs.Cutting.{IsCutOf, cut}

pub all_in_line : (records : List Xval) → All IsInLine (map json_of records)
all_in_line [] = All-nil IsInLine
all_in_line (x ∷ xs) = All-cons IsInLine (json_of x) (map json_of xs) (text_lacks x) (all_in_line xs)

pub take_map : (n : ℕ) (records : List Xval) → take n (map json_of records) ≡ map json_of (take n records)
take_map zero records = refl
take_map (suc n) [] = refl
take_map (suc n) (x ∷ xs) = ap (λ l. json_of x ∷ l) (take_map n xs)

read_back : (records : List Xval) → All IsTellable records → (n : ℕ) → map (value_of_text 127) (map json_of (take n records)) ≡ map Some (take n records)
read_back records all zero = refl
read_back [] all (suc n) = refl
read_back (x ∷ xs) all (suc n) =
    let one = All-head IsTellable x xs all in
    ap (λ o. o ∷ map (value_of_text 127) (map json_of (take n xs))) (value_of_text_text_of 127 x one.sound one.shallow (omega arith)) ∙ ap (λ l. Some x ∷ l) (read_back xs (All-tail IsTellable x xs all) n)

pub whole_ones : (records : List Xval) → All IsTellable records → (n : ℕ) → ReadsWholeOnes records n
whole_ones records all n =
    let lines = map json_of records in
    let c : IsCutOf lines n (whole_lines (take n (text_of_lines lines))) = cut lines (all_in_line records) n in
    record {
      count = c.count;
      few = omega (arith, c.few, length-map records json_of);
      read = ap (map (value_of_text 127)) (c.are ∙ take_map c.count records) ∙ read_back records all c.count;
      each = subst (λ l. length (text_of_lines l) ≤ n) (take_map c.count records) c.each;
      none_more = λ less. subst (λ l. n < length (text_of_lines l)) (take_map (suc c.count) records) (c.none_more (omega (arith, less, length-map records json_of)));
    }
