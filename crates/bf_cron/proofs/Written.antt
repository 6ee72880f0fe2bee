-- What is written in the form is read as that item.
use Rattle.std.proofs.Common.{◌≡◌, ◌≢◌, ℕ, zero, suc, ◌+◌, ◌-◌, ◌<◌, ◌≤◌, ◌==◌, nat_lt, nat_le, Bool, true, false, cond, List, [], ◌∷◌, ◌++◌, length, get_or, take, drop, map, Option, Some, None, position, refl, ap, ◌∙◌, sym, arith, inl, inr, append_assoc, lit<}
use Rattle.std.specs.Str.{bytes_eq}
use Rattle.std.specs.Char.{to_ascii_lowercase}
use Rattle.std.specs.List.{position_or_len, before_first, after_first}
use Rattle.std.proofs.lemmas.Bool.Decides.{nat_tests}
use Rattle.std.proofs.lemmas.List.{take_all, take_at, drop_at, length_push}
use Rattle.std.proofs.Math.ListN.{get_or-append, get_or-map}
use Rattle.std.proofs.Math.Seq.{get_or-append_seam}
use Rattle.std.proofs.lemmas.List.{length-append, length-map}
use Rattle.std.specs.List.{list_all}
use Rattle.std.proofs.lemmas.List.Sums.{position_or_len_is, AllPass-from_list_all}
use Rattle.std.proofs.lemmas.List.Quantifiers.{position-Some}
use Rattle.std.proofs.lemmas.Slice.Eq.{bytes_eq-Decides}
use Rattle.std.proofs.lemmas.Bool.{cases_order, cases_Bool}
use Rattle.std.proofs.Math.Seq.{get_or-append_right}
use Rattle.bf_cron.specs.declared.field.Field.{Field}
use Rattle.bf_cron.specs.declared.field.Field.TheVariants.{Minute, Hour, Day, Month, Weekday}
use Rattle.bf_cron.specs.declared.item.Item.{Item}
use Rattle.bf_cron.specs.Cron.{least_of, greatest_of, names, named, step_of, after, item_between, range_of, stepped, item_of}
use Rattle.bf_cron.proofs.Decimals.{number_read, step_read, some_mapped}
use Rattle.bf_cron.specs.Grammar.{IsItemText, every, every_nth, one, span, span_nth, IsNumber, number, name, units, tens}

-- all bytes are digits or letters
abbrev IsHigh : List ℕ → Type 0
IsHigh text = (k : ℕ) → k < length text → 48 ≤ get_or text k 0

-- the byte isn't there
abbrev Lacks : ℕ → List ℕ → Type 0
Lacks c text = (k : ℕ) → k < length text → get_or text k 0 ≢ c

cut_none : (c : ℕ) (text : List ℕ) → Lacks c text → (before_first (λ b. b == c) text ≡ text) × (after c text ≡ None)
cut_none c text lacks =
    let p : ℕ → Bool = λ b. b == c in
    let at : position_or_len p text ≡ length text = position_or_len_is p text (length text) 0 (omega arith) (λ k l. let h = lacks k l in grind (arith, nat_tests)) (λ l. absurd (omega arith)) in
    let test : nat_lt (position_or_len p text) (length text) ≡ false = grind (arith, nat_tests) in
    (ap (λ n. take n text) at ∙ take_all (length text) text (omega arith), ap (λ b. cond b (Some (after_first p text)) None) test)

cut_at : (c : ℕ) (front rest : List ℕ) → Lacks c front → (before_first (λ b. b == c) (front ++ c ∷ rest) ≡ front) × (after c (front ++ c ∷ rest) ≡ Some rest)
cut_at c front rest lacks =
    let p : ℕ → Bool = λ b. b == c in
    let text : List ℕ = front ++ c ∷ rest in
    let len : length text ≡ length front + suc (length rest) = length-append front (c ∷ rest) in
    let at : position_or_len p text ≡ length front = position_or_len_is p text (length front) 0 (omega arith)
    (λ k l. let h = lacks k l in let e = get_or-append front (c ∷ rest) 0 k l in grind (arith, nat_tests))
    (λ l. let e = get_or-append_seam front c rest 0 in grind (arith, nat_tests)) in
    let test : nat_lt (position_or_len p text) (length text) ≡ true = grind (arith, nat_tests) in
    let gone : drop (length front + 1) text ≡ rest = ap (drop (length front + 1)) (sym (append_assoc front (c ∷ []) rest)) ∙ drop_at (front ++ c ∷ []) rest (length front + 1) (length_push front c) in (
      ap (λ n. take n text) at ∙ take_at front (c ∷ rest) (length front) refl,
      ap (λ b. cond b (Some (after_first p text)) None) test ∙ ap Some (ap (λ n. drop (n + 1) text) at ∙ gone),
    )

lacks_low : (c : ℕ) (text : List ℕ) → c < 48 → IsHigh text → Lacks c text
lacks_low c text low high k l e = let h = high k l in omega arith

lacks_span : (s t : List ℕ) → IsHigh s → IsHigh t → Lacks 47 (s ++ 45 ∷ t)
lacks_span s t hs ht k l e = elim (cases_order k (length s)) as (λ _. ⊥) [
  | inl same ↦ omega (arith, ap (λ j. get_or (s ++ 45 ∷ t) j 0) same, get_or-append_seam s 45 t 0)
  | inr r ↦ elim r as (λ _. ⊥) [
    | inl less ↦ omega (arith, get_or-append s (45 ∷ t) 0 k less, hs k less)
    | inr more ↦
        let len : length (s ++ 45 ∷ t) ≡ length s + suc (length t) = length-append s (45 ∷ t) in
        let j : k - length s ≡ suc (k - length s - 1) = omega arith in
        let right = get_or-append_right s (45 ∷ t) k 0 (omega arith) in
        omega (arith, right, ap (λ i. get_or (45 ∷ t) i 0) j, ht (k - length s - 1) (omega arith))
  ]
]

-- the letters of each name
letters : (f : Field) → list_all (λ name. list_all (λ b. nat_le 97 b) name) (names f) ≡ true
letters Minute = refl
letters Hour = refl
letters Day = refl
letters Month = refl
letters Weekday = refl

letter_high : (f : Field) (i k : ℕ) → i < length (names f) → k < length (get_or (names f) i []) → 97 ≤ get_or (get_or (names f) i []) k 0
letter_high f i k small inside =
    let all = AllPass-from_list_all (λ name. list_all (λ b. nat_le 97 b) name) (names f) (letters f) in
    let one' = all i [] small in
    let at = AllPass-from_list_all (λ b. nat_le 97 b) (get_or (names f) i []) one' k 0 inside in
    grind (arith, nat_tests)

lower_high : (b : ℕ) → 97 ≤ to_ascii_lowercase b → 48 ≤ b
lower_high b h = grind (arith, nat_tests)

named_high : (f : Field) (t : List ℕ) (n : ℕ) → named f t ≡ Some n → IsHigh t
named_high f t n e k inside =
    let q : List ℕ → Bool = λ name. bytes_eq name (map to_ascii_lowercase t) in
    let (i, at) = some_mapped (λ i. i + least_of f) (position q (names f)) n e in
    let found = position-Some q (names f) i [] at in
    let same = (bytes_eq-Decides (get_or (names f) i []) (map to_ascii_lowercase t)).0 found.1 in
    let len : length (get_or (names f) i []) ≡ length t = ap length same ∙ length-map t to_ascii_lowercase in
    let high = letter_high f i k found.0 (omega arith) in
    let byte : get_or (get_or (names f) i []) k 0 ≡ to_ascii_lowercase (get_or t k 0) = ap (λ l. get_or l k 0) same ∙ get_or-map to_ascii_lowercase t k 0 in
    lower_high (get_or t k 0) (omega arith)

one_high : (a : ℕ) → 48 ≤ a → IsHigh (a ∷ [])
one_high a h zero l = h
one_high a h (suc k) l = absurd (omega arith)

two_high : (a b : ℕ) → 48 ≤ a → 48 ≤ b → IsHigh (a ∷ b ∷ [])
two_high a b h g zero l = h
two_high a b h g (suc zero) l = g
two_high a b h g (suc (suc k)) l = absurd (omega arith)

number_high : (f : Field) (t : List ℕ) (n : ℕ) → IsNumber f t n → IsHigh t
number_high f t n (number (units a small) low high) = one_high (48 + a) (omega arith)
number_high f t n (number (tens a b small_a small_b) low high) = two_high (48 + a) (48 + b) (omega arith) (omega arith)
number_high f t n (name e) = named_high f t n e

first_high : (f : Field) (t : List ℕ) (n : ℕ) → IsNumber f t n → (48 ≤ get_or t 0 0) × (0 < length t)
first_high f [] n e = absurd (let read = number_read f [] n e in cc)
first_high f (a ∷ t) n e = (number_high f (a ∷ t) n e 0 (omega arith), omega arith)

not_star : (base : List ℕ) → 48 ≤ get_or base 0 0 → bytes_eq base (42 ∷ []) ≡ false
not_star base h = elim (cases_Bool (bytes_eq base (42 ∷ []))) as (λ _. bytes_eq base (42 ∷ []) ≡ false) [
  | inl same ↦ absurd (omega (arith, ap (λ l. get_or l 0 0) ((bytes_eq-Decides base (42 ∷ [])).0 same)))
  | inr other ↦ other
]

-- from the parts to the item
parts_give : (f : Field) (text base first : List ℕ) (step last : Option (List ℕ)) → (before_first (λ b. b == 47) text ≡ base) × (after 47 text ≡ step) → (before_first (λ b. b == 45) base ≡ first) × (after 45 base ≡ last) → 48 ≤ get_or base 0 0 → item_of f text ≡ range_of f first last step
parts_give f text base first step last outer inner high =
    (λ j. stepped f (outer.0 j) (outer.1 j))
    ∙ ap (λ b. cond b (item_between (Some (least_of f)) (Some (greatest_of f)) (step_of step)) (range_of f (before_first (λ b. b == 45) base) (after 45 base) step)) (not_star base high)
    ∙ (λ j. range_of f (inner.0 j) (inner.1 j) step)

between_gives : (x y n : ℕ) (a b s : Option ℕ) → a ≡ Some x → b ≡ Some y → s ≡ Some n → x ≤ y → item_between a b s ≡ Some (record { low = x; high = y; step = n })
between_gives x y n a b s e h k l =
    let test : nat_le x y ≡ true = grind (arith, nat_tests) in
    (λ j. item_between (e j) (h j) (k j)) ∙ ap (λ b. cond b (Some (record { low = x; high = y; step = n })) None) test

star_gives : (f : Field) (n : ℕ) → item_between (Some (least_of f)) (Some (greatest_of f)) (Some n) ≡ Some (record { low = least_of f; high = greatest_of f; step = n })
star_gives Minute n = refl
star_gives Hour n = refl
star_gives Day n = refl
star_gives Month n = refl
star_gives Weekday n = refl

lacks_star : Lacks 47 (42 ∷ [])
lacks_star zero l e = absurd (omega arith)
lacks_star (suc k) l e = absurd (omega arith)

span_high : (s t : List ℕ) → (48 ≤ get_or s 0 0) × (0 < length s) → 48 ≤ get_or (s ++ t) 0 0
span_high s t h = omega (arith, get_or-append s t 0 0 h.1, h.0)

-- what is written so is read
pub written_is_read : (f : Field) (text : List ℕ) (i : Item) → IsItemText f text i → item_of f text ≡ Some i
written_is_read f text i every =
    let cut = cut_none 47 (42 ∷ []) lacks_star in
    (λ j. stepped f (cut.0 j) (cut.1 j)) ∙ star_gives f 1
written_is_read f text i (every_nth t n is_step) =
    let step = step_read t n is_step in
    let cut = cut_at 47 (42 ∷ []) t lacks_star in
    (λ j. stepped f (cut.0 j) (cut.1 j)) ∙ ap (item_between (Some (least_of f)) (Some (greatest_of f))) step ∙ star_gives f n
written_is_read f text i (one t a is_a) =
    let na = number_read f t a is_a in
    let high = number_high f t a is_a in
    parts_give f t t t None None (cut_none 47 t (lacks_low 47 t (lit< tt) high)) (cut_none 45 t (lacks_low 45 t (lit< tt) high)) (first_high f t a is_a).0
    ∙ between_gives a a 1 _ _ _ na na refl (omega arith)
written_is_read f text i (span s t a b is_a is_b le) =
    let na = number_read f s a is_a in
    let nb = number_read f t b is_b in
    let hs = number_high f s a is_a in
    let ht = number_high f t b is_b in
    parts_give f (s ++ 45 ∷ t) (s ++ 45 ∷ t) s None (Some t) (cut_none 47 (s ++ 45 ∷ t) (lacks_span s t hs ht)) (cut_at 45 s t (lacks_low 45 s (lit< tt) hs)) (span_high s (45 ∷ t) (first_high f s a is_a))
    ∙ between_gives a b 1 _ _ _ na nb refl le
written_is_read f text i (span_nth s t u a b n is_a is_b le is_step) =
    let na = number_read f s a is_a in
    let nb = number_read f t b is_b in
    let step = step_read u n is_step in
    let hs = number_high f s a is_a in
    let ht = number_high f t b is_b in
    parts_give f (s ++ 45 ∷ t ++ 47 ∷ u) (s ++ 45 ∷ t) s (Some u) (Some t) (cut_at 47 (s ++ 45 ∷ t) u (lacks_span s t hs ht)) (cut_at 45 s t (lacks_low 45 s (lit< tt) hs)) (span_high s (45 ∷ t) (first_high f s a is_a))
    ∙ between_gives a b n _ _ _ na nb step le
