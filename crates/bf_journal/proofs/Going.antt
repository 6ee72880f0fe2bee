-- A recorder that goes on.
use Rattle.std.proofs.Common.{◌≡◌, ◌+◌, ℕ, List, [], ◌∷◌, ◌++◌, Bool, true, false, not, length, take, drop, Option, Some, None, refl, sym, ap, ◌∙◌, append_assoc, append-nil, arith}
use Rattle.std.proofs.lemmas.List.{take_all, take_at, drop_at, length-append}
use Rattle.std.proofs.lemmas.List.Elements.{All-nil, All-push}
use Rattle.std.proofs.Math.Seq.{take-add}
use Rattle.bf_device.specs.Device.{sent}
use Rattle.bf_journal.specs.Recording.{GoesOut, IsWritten, text_of_all}

all_more : (texts : List (List ℕ)) (text : List ℕ) → text_of_all (texts ++ text ∷ []) ≡ text_of_all texts ++ text
all_more [] text = append-nil text
all_more (t ∷ ts) text = ap (λ l. t ++ l) (all_more ts text) ∙ sym (append_assoc t (text_of_all ts) text)

sent_twice : (base : Option (List ℕ)) (a b : List ℕ) → sent (sent base a) b ≡ sent base (a ++ b)
sent_twice None a b = refl
sent_twice (Some l) a b = ap Some (append_assoc l a b)

pub take_past : (a b : List ℕ) (m : ℕ) → take (length a + m) (a ++ b) ≡ a ++ take m b
take_past a b m =
    take-add (length a) m (a ++ b) ∙ ap (λ l. l ++ take m (drop (length a) (a ++ b))) (take_at a b (length a) refl)
    ∙ ap (λ l. a ++ take m l) (drop_at a b (length a) refl)

sent_nothing : (base : Option (List ℕ)) → base ≡ sent base []
sent_nothing None = refl
sent_nothing (Some l) = ap Some (sym (append-nil l))

-- nothing is written
pub begins : (may : List ℕ → Type 0) (base written : Option (List ℕ)) → base ≡ written → IsWritten may base written false
begins may base written same = record {
  records = [];
  may_be = All-nil may;
  count = 0;
  few = omega arith;
  first = sym same ∙ sent_nothing base;
  all = λ _. refl;
}

-- no more is written
pub given_up : (may : List ℕ → Type 0) (base written : Option (List ℕ)) (failed : Bool) → IsWritten may base written failed → IsWritten may base written true
given_up may base written failed is =
    record { records = is.records; may_be = is.may_be; count = is.count; few = is.few; first = is.first; all = λ not. absurd (cc) }

did : (whole : Bool) → not whole ≡ false → whole ≡ true
did true e = refl
did false e = absurd (cc)

-- a record goes out behind all before
pub goes_on : (may : List ℕ → Type 0) (base old new : Option (List ℕ)) (line : List ℕ) (whole : Bool) → IsWritten may base old false → may line → GoesOut line old new whole
    → IsWritten may base new (not whole)
goes_on may base old new line whole is allowed out =
    let before = text_of_all is.records in
    let n = out.count in
    let many : is.count ≡ length before = is.all refl in
    let was : old ≡ sent base before = is.first ∙ ap (sent base) (take_all is.count before (omega (arith, many))) in
    let same : take (length before + n) (text_of_all (is.records ++ line ∷ [])) ≡ before ++ take n line =
    ap (take (length before + n)) (all_more is.records line) ∙ take_past before line n in
    let long : length (text_of_all (is.records ++ line ∷ [])) ≡ length before + length line =
    ap length (all_more is.records line) ∙ length-append before line in
    record {
      records = is.records ++ line ∷ [];
      may_be = All-push may is.records line is.may_be allowed;
      count = length before + n;
      few = omega (arith, out.few, long);
      first = out.out ∙ ap (λ w. sent w (take n line)) was ∙ sent_twice base before (take n line) ∙ ap (sent base) (sym same);
      all = λ fine. omega (arith, out.all (did whole fine), long);
    }

-- a whole line went out
pub went_out : (line : List ℕ) (old new : Option (List ℕ)) (whole : Bool) → new ≡ sent old line → GoesOut line old new whole
went_out line old new whole out =
    record { count = length line; few = omega arith; out = out ∙ ap (sent old) (sym (take_all (length line) line (omega arith))); all = λ _. refl }
