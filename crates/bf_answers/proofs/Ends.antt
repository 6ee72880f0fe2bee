-- The text of a value stands in one line, whose last byte is no blank.
use Rattle.std.proofs.Common.{◌≡◌, ℕ, zero, suc, ◌+◌, ◌-◌, ◌<◌, ◌/◌, ◌%◌, ◌==◌, Bool, true, false, cond, not, nat_lt, true≢false, List, [], ◌∷◌, ◌++◌, Some, pos, negsuc, length, get_or, take, drop, reverse, decimal, refl, sym, ap, ◌∙◌, subst, inl, inr, append_assoc, length-append, arith}
use Rattle.std.specs.Fmt.{digits, digits_onto, digit_glyph}
use Rattle.std.specs.List.{prefix_len, suffix_len, after_last}
use Rattle.std.proofs.lemmas.Bool.{cases_Bool}
use Rattle.std.proofs.lemmas.Bool.Decides.{nat_tests}
use Rattle.std.proofs.lemmas.List.{reverse-append, take_all}
use Rattle.std.proofs.lemmas.List.Folds.{list_any_at}
use Rattle.std.proofs.lemmas.List.Sums.{suffix_len_is}
use lib.Seq.{drop-append_seam}
use Rattle.json.specs.Print.{escape}
use Rattle.serde_json.specs.Data.{string, Items, no_items, item}
use Rattle.serde_json.specs.Written.{compact_text, items_text, comma_if}
use Rattle.bf_value.specs.declared.xval.Xval.{Xval}
use Rattle.bf_value.specs.Json.{data_of, data_items, json_of}
use Rattle.bf_value.specs.Line.{is_blank_in, is_line_feed, last_line_of, without_blanks_of, without_line_feed_of}
use Rattle.bf_value.specs.Plain.{Plain, flag, int, text, list, nil}
use Rattle.bf_value.specs.Views.{plain_of}
use Rattle.bf_value.proofs.LackLemmas.{Lacks, text_lacks}
use Rattle.bf_answers.specs.TableText.{out_data}

-- the last byte is neither a blank nor a line feed
abbrev HasEnd : List ℕ → Type 0
HasEnd s = (front : List ℕ) × (b : ℕ) × (s ≡ front ++ b ∷ []) × (32 < b)

one_before : (x : ℕ) (s : List ℕ) → HasEnd s → HasEnd (x ∷ s)
one_before x s (front, b, is, high) = (x ∷ front, b, ap (λ t. x ∷ t) is, high)

glyph_high : (n : ℕ) → 32 < digit_glyph false n
glyph_high n = elim (cases_Bool (nat_lt n 10)) as (λ _. 32 < digit_glyph false n) [
  | inl is ↦ rw is (omega arith)
  | inr not_is ↦ rw not_is (omega arith)
]

onto_end : (k n : ℕ) (acc : List ℕ) → HasEnd acc → HasEnd (digits_onto k 10 false n acc)
onto_end zero n acc h = h
onto_end (suc k) n acc h =
    let more : HasEnd (digit_glyph false (n % 10) ∷ acc) = one_before (digit_glyph false (n % 10)) acc h in
    elim (cases_Bool (n / 10 == 0)) as (λ _. HasEnd (digits_onto (suc k) 10 false n acc)) [
      | inl is ↦ rw is more
      | inr not_is ↦ rw not_is (onto_end k (n / 10) (digit_glyph false (n % 10) ∷ acc) more)
    ]

first_end : (k n : ℕ) → HasEnd (digits_onto (suc k) 10 false n [])
first_end k n =
    let one : HasEnd (digit_glyph false (n % 10) ∷ []) = ([], digit_glyph false (n % 10), refl, glyph_high (n % 10)) in
    elim (cases_Bool (n / 10 == 0)) as (λ _. HasEnd (digits_onto (suc k) 10 false n [])) [
      | inl is ↦ rw is one
      | inr not_is ↦ rw not_is (onto_end k (n / 10) (digit_glyph false (n % 10) ∷ []) one)
    ]

decimal_end : (n : ℕ) → HasEnd (decimal n)
unfolding digits
decimal_end n = first_end 63 n

items_end : (later : Bool) (ds : Items) → (front : List ℕ) × (items_text later ds ≡ front ++ 93 ∷ [])
items_end later no_items = ([], refl)
items_end later (item d ds) =
    let rest = items_end true ds in (
      comma_if later ++ (compact_text d ++ rest.0),
      ap (λ s. comma_if later ++ (compact_text d ++ s)) rest.1 ∙ ap (λ s. comma_if later ++ s) (sym (append_assoc (compact_text d) rest.0 (93 ∷ []))) ∙ sym (append_assoc (comma_if later) (compact_text d ++ rest.0) (93 ∷ [])),
    )

plain_end : (p : Plain) → HasEnd (compact_text (data_of p))
plain_end (flag true) = (116 ∷ 114 ∷ 117 ∷ [], 101, refl, omega arith)
plain_end (flag false) = (102 ∷ 97 ∷ 108 ∷ 115 ∷ [], 101, refl, omega arith)
plain_end (int (pos n)) = decimal_end n
plain_end (int (negsuc n)) = one_before 45 (decimal (suc n)) (decimal_end (suc n))
plain_end (text t) = (34 ∷ escape t, 34, refl, omega arith)
plain_end (list ps) = let rest = items_end false (data_items ps) in (91 ∷ rest.0, 93, ap (λ s. 91 ∷ s) rest.1, omega arith)
plain_end nil = (110 ∷ 117 ∷ 108 ∷ [], 108, refl, omega arith)

-- ---- so the text isn't empty, and is the last line of itself

some_out : (front : List ℕ) (b : ℕ) → out_data (front ++ b ∷ []) ≡ Some (string (front ++ b ∷ []))
some_out [] b = refl
some_out (x ∷ xs) b = refl

pub out_there : (x : Xval) → out_data (json_of x) ≡ Some (string (json_of x))
out_there x = let (front, b, is, high) = plain_end (plain_of x) in ap out_data is ∙ some_out front b ∙ ap (λ s. Some (string s)) (sym is)

stops : (p : ℕ → Bool) (front : List ℕ) (b : ℕ) → p b ≡ false → suffix_len p (front ++ b ∷ []) ≡ 0
stops p front b fails = ap (prefix_len p) (reverse-append front (b ∷ [])) ∙ ap (λ t. cond t (1 + prefix_len p (reverse front)) 0) fails

no_feed : (b : ℕ) → 32 < b → is_line_feed b ≡ false
no_feed b high = grind (arith, nat_tests, high)

no_blank : (b : ℕ) → 32 < b → is_blank_in b ≡ false
no_blank b high = grind (arith, nat_tests, high)

not_false : (b : Bool) → (b ≡ true → ⊥) → not b ≡ true
not_false true never = absurd (never refl)
not_false false never = refl

feedless : (s : List ℕ) → Lacks 10 s → after_last is_line_feed s ≡ s
feedless s lacks =
    let all = suffix_len_is (λ x. not (is_line_feed x)) s 0 0 (omega arith) (λ k _ low. not_false (is_line_feed (get_or s k 0)) (λ e. true≢false (sym (list_any_at is_line_feed s k 0 low e) ∙ lacks))) (λ some. absurd (omega (arith, some))) in
    let whole : length s - suffix_len (λ x. not (is_line_feed x)) s ≡ 0 = omega (arith, all) in
    ap (λ n. drop n s) whole

uncut : (s : List ℕ) (n : ℕ) → n ≡ 0 → take (length s - n) s ≡ s
uncut s n none = let whole : length s - n ≡ length s = omega (arith, none) in ap (λ k. take k s) whole ∙ take_all (length s) s (omega arith)

whole_line : (front : List ℕ) (b : ℕ) → 32 < b → Lacks 10 (front ++ b ∷ []) → last_line_of (front ++ b ∷ []) ≡ front ++ b ∷ []
whole_line front b high lacks =
    let s = front ++ b ∷ [] in
    let size : length s - 1 ≡ length front = omega (arith, length-append front (b ∷ [])) in
    let last : drop (length s - 1) s ≡ b ∷ [] = ap (λ n. drop n s) size ∙ drop-append_seam front (b ∷ []) in
    let none : suffix_len is_line_feed (drop (length s - 1) s) ≡ 0 = ap (suffix_len is_line_feed) last ∙ stops is_line_feed [] b (no_feed b high) in
    let fed : without_line_feed_of s ≡ s = uncut s (suffix_len is_line_feed (drop (length s - 1) s)) none in
    let unblank : without_blanks_of s ≡ s = uncut s (suffix_len is_blank_in s) (stops is_blank_in front b (no_blank b high)) in
    ap (λ t. without_blanks_of (after_last is_line_feed t)) fed ∙ ap without_blanks_of (feedless s lacks) ∙ unblank

pub text_is_its_last_line : (x : Xval) → last_line_of (json_of x) ≡ json_of x
text_is_its_last_line x =
    let (front, b, is, high) = plain_end (plain_of x) in
    ap last_line_of is ∙ whole_line front b high (subst (Lacks 10) is (text_lacks x)) ∙ sym is
