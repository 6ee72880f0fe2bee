-- Bytes that texts lack.
use Rattle.std.proofs.Common.{◌≡◌, ◌≤◌, ◌<◌, ◌==◌, ◌||◌, ◌/◌, ◌%◌, ℕ, zero, suc, List, [], ◌∷◌, ◌++◌, Bool, true, false, cond, nat_lt, true≢false, decimal, refl, sym, ap, ◌∙◌, inl, inr, pos, negsuc, arith}
use Rattle.std.specs.Fmt.{digits, digits_onto, digit_glyph}
use Rattle.std.specs.Char.{digit_char}
use Rattle.std.specs.List.{list_any}
use Rattle.std.proofs.lemmas.Bool.{cases_Bool}
use Rattle.std.proofs.lemmas.Bool.Decides.{nat_tests}
use Rattle.json.specs.Print.{quoted, escape, escape_byte, escape_letter}
use Rattle.serde_json.specs.Data.{Num, unsigned, negative, float, Data, null, boolean, number, string, array, object, Items, no_items, item, Members, no_members, member}
use Rattle.serde_json.specs.Written.{compact_text, items_text, members_text, number_text, comma_if}
use Rattle.std.proofs.lemmas.List.Folds.{list_any-append}
use Rattle.bf_value.specs.Json.{json_of, data_of}
use Rattle.bf_value.specs.Views.{plain_of}
use Rattle.bf_value.specs.declared.xval.Xval.{Xval}

-- the byte does not stand in the text
abbrev pub Lacks : ℕ → List ℕ → Type 0
Lacks s text = list_any (λ b. b == s) text ≡ false

or_parts : (a b : Bool) → (a || b) ≡ false → (a ≡ false) × (b ≡ false)
or_parts true b e = absurd (true≢false e)
or_parts false b e = (refl, e)

pub first_lacks : (s x : ℕ) (xs : List ℕ) → Lacks s (x ∷ xs) → (x ≡ s → ⊥) × Lacks s xs
first_lacks s x xs e =
    let (other, rest) = or_parts (x == s) (list_any (λ b. b == s) xs) e in
    (λ same. grind (arith, nat_tests, other, same), rest)

pub lacks_append : (s : ℕ) (xs ys : List ℕ) → Lacks s xs → Lacks s ys → Lacks s (xs ++ ys)
lacks_append s xs ys a b = list_any-append (λ x. x == s) xs ys ∙ rw (a, b) refl

pub lacks_more : (s x : ℕ) (xs : List ℕ) → (x ≡ s → ⊥) → Lacks s xs → Lacks s (x ∷ xs)
lacks_more s x xs other rest = let no : (x == s) ≡ false = grind (arith, nat_tests, other) in rw no rest

glyph_high : (n : ℕ) → 48 ≤ digit_glyph false n
glyph_high n = elim (cases_Bool (nat_lt n 10)) as (λ _. 48 ≤ digit_glyph false n) [
  | inl is ↦ rw is (omega arith)
  | inr not_is ↦ rw not_is (omega arith)
]

onto_lacks : (s k n : ℕ) (acc : List ℕ) → s < 48 → Lacks s acc → Lacks s (digits_onto k 10 false n acc)
onto_lacks s zero n acc low rest = rest
onto_lacks s (suc k) n acc low rest =
    let more : Lacks s (digit_glyph false (n % 10) ∷ acc) = lacks_more s (digit_glyph false (n % 10)) acc (λ e. omega (arith, glyph_high (n % 10))) rest in
    elim (cases_Bool (n / 10 == 0)) as (λ _. Lacks s (digits_onto (suc k) 10 false n acc)) [
      | inl is ↦ rw is more
      | inr not_is ↦ rw not_is (onto_lacks s k (n / 10) (digit_glyph false (n % 10) ∷ acc) low more)
    ]

pub decimal_lacks : (s n : ℕ) → s < 48 → Lacks s (decimal n)
unfolding digits
decimal_lacks s n low = onto_lacks s 64 n [] low refl

number_lacks : (n : Num) → Lacks 10 (number_text n)
number_lacks (unsigned n) = decimal_lacks 10 n (omega arith)
number_lacks (negative (pos n)) = decimal_lacks 10 n (omega arith)
number_lacks (negative (negsuc n)) = decimal_lacks 10 (suc n) (omega arith)
number_lacks (float x) = refl

letter_other : (x : ℕ) → escape_letter x ≡ 10 → ⊥
letter_other x e = grind (arith, nat_tests, e)

-- a line feed has a letter
no_letter : (x : ℕ) → nat_lt 0 (escape_letter x) ≡ false → x ≡ 10 → ⊥
no_letter x e same = absurd (true≢false (ap (λ n. nat_lt 0 (escape_letter n)) (sym same) ∙ e))

char_high : (n : ℕ) → digit_char n ≡ 10 → ⊥
char_high n e = elim (cases_Bool (nat_lt n 10)) [
  | inl is ↦ omega (arith, rw is at e)
  | inr not_is ↦ omega (arith, rw not_is at e)
]

escape_lacks : (x : ℕ) → Lacks 10 (escape_byte x)
unfolding escape_byte
escape_lacks x = elim (cases_Bool (nat_lt 0 (escape_letter x))) as (λ _. Lacks 10 (escape_byte x)) [
  | inl is ↦ rw is (lacks_more 10 (escape_letter x) [] (letter_other x) refl)
  | inr not_is ↦ rw not_is (elim (cases_Bool (nat_lt x 32)) as (λ _. Lacks 10 (cond (nat_lt x 32) (92 ∷ 117 ∷ 48 ∷ 48 ∷ digit_char (x / 16) ∷ digit_char (x % 16) ∷ []) (x ∷ []))) [
    | inl low ↦ rw low (lacks_more 10 (digit_char (x / 16)) (digit_char (x % 16) ∷ []) (char_high (x / 16)) (lacks_more 10 (digit_char (x % 16)) [] (char_high (x % 16)) refl))
    | inr high ↦ rw high (lacks_more 10 x [] (no_letter x not_is) refl)
  ])
]

quoted_lacks : (s : List ℕ) → Lacks 10 (quoted s)
quoted_lacks s = lacks_append 10 (escape s) (34 ∷ []) (all s) refl
  where
    all : (s : List ℕ) → Lacks 10 (escape s)
    all [] = refl
    all (x ∷ xs) = lacks_append 10 (escape_byte x) (escape xs) (escape_lacks x) (all xs)

comma_lacks : (later : Bool) → Lacks 10 (comma_if later)
comma_lacks true = refl
comma_lacks false = refl

-- compact JSON has no line feed
mutual
  json_lacks : (d : Data) → Lacks 10 (compact_text d)
  json_lacks null = refl
  json_lacks (boolean true) = refl
  json_lacks (boolean false) = refl
  json_lacks (number n) = number_lacks n
  json_lacks (string s) = quoted_lacks s
  json_lacks (array ds) = items_lack false ds
  json_lacks (object ms) = members_lack false ms

  items_lack : (later : Bool) (ds : Items) → Lacks 10 (items_text later ds)
  items_lack later no_items = refl
  items_lack later (item d ds) = lacks_append 10 (comma_if later) (compact_text d ++ items_text true ds) (comma_lacks later) (lacks_append 10 (compact_text d) (items_text true ds) (json_lacks d) (items_lack true ds))

  members_lack : (later : Bool) (ms : Members) → Lacks 10 (members_text later ms)
  members_lack later no_members = refl
  members_lack later (member k d ms) =
      lacks_append 10 (comma_if later) (quoted k ++ 58 ∷ (compact_text d ++ members_text true ms)) (comma_lacks later)
      (lacks_append 10 (quoted k) (58 ∷ (compact_text d ++ members_text true ms)) (quoted_lacks k)
      (lacks_append 10 (compact_text d) (members_text true ms) (json_lacks d) (members_lack true ms)))

pub text_lacks : (value : Xval) → Lacks 10 (json_of value)
text_lacks value = json_lacks (data_of (plain_of value))
