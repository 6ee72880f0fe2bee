-- What is read as a number or a step is written as one, and the other way round.
use Rattle.std.proofs.Common.{◌≡◌, ℕ, ◌+◌, ◌-◌, ◌*◌, ◌≤◌, ◌==◌, nat_le, Bool, true, false, ◌&&◌, cond, List, [], ◌∷◌, length, map, get_or, Option, Some, None, option_map, position, refl, ap, ◌∙◌, sym, subst, arith}
use Rattle.std.specs.Str.{bytes_eq}
use Rattle.std.specs.Char.{to_ascii_lowercase}
use Rattle.std.specs.List.{list_all}
use Rattle.std.proofs.lemmas.Bool.Decides.{nat_tests}
use Rattle.std.proofs.lemmas.List.{length-map}
use Rattle.std.proofs.lemmas.List.Sums.{AllPass-from_list_all}
use Rattle.std.proofs.lemmas.List.Quantifiers.{position-Some}
use Rattle.std.proofs.lemmas.Slice.Eq.{bytes_eq-Decides}
use Rattle.bf_cron.specs.declared.field.Field.{Field}
use Rattle.bf_cron.specs.declared.field.Field.TheVariants.{Minute, Hour, Day, Month, Weekday}
use Rattle.bf_cron.specs.Cron.{least_of, greatest_of, digit, two_digits, small_number, names, named, within, number_of, step_within, step_of}
use Rattle.bf_cron.specs.Grammar.{IsDecimal, units, tens, IsNumber, number, name, IsStep}

-- ---- digits

record Picked (b : Bool) (x n : ℕ) : Type 0 where
  test : b ≡ true
  is : n ≡ x

picked : (b : Bool) (x n : ℕ) → cond b (Some x) None ≡ Some n → Picked b x n
picked true x n e = record { test = refl; is = cc }
picked false x n e = absurd (cc)

digit_is : (c n : ℕ) → digit c ≡ Some n → (c ≡ 48 + n) × (n ≤ 9)
digit_is c n e =
    let p = picked (nat_le 48 c && nat_le c 57) (c - 48) n e in
    let t = p.test in
    let is = p.is in
    (grind (arith, nat_tests), grind (arith, nat_tests))

digit_of : (n : ℕ) → n ≤ 9 → digit (48 + n) ≡ Some n
digit_of n small =
    let test : (nat_le 48 (48 + n) && nat_le (48 + n) 57) ≡ true = grind (arith, nat_tests) in
    let same : (48 + n) - 48 ≡ n = omega arith in
    ap (λ b. cond b (Some ((48 + n) - 48)) None) test ∙ ap Some same

record Digits (a b : Option ℕ) (n : ℕ) : Type 0 where
  high : ℕ
  low : ℕ
  is_high : a ≡ Some high
  is_low : b ≡ Some low
  is : n ≡ 10 * high + low

digits : (a b : Option ℕ) (n : ℕ) → two_digits a b ≡ Some n → Digits a b n
digits None b n e = absurd (cc)
digits (Some x) None n e = absurd (cc)
digits (Some x) (Some y) n e = record { high = x; low = y; is_high = refl; is_low = refl; is = cc }

decimal_written : (text : List ℕ) (n : ℕ) → small_number text ≡ Some n → IsDecimal text n
decimal_written [] n e = absurd (cc)
decimal_written (a ∷ []) n e =
    let (is, small) = digit_is a n e in
    subst (λ c. IsDecimal (c ∷ []) n) (sym is) (units n small)
decimal_written (a ∷ b ∷ []) n e =
    let w = digits (digit a) (digit b) n e in
    let (is_a, small_a) = digit_is a w.high w.is_high in
    let (is_b, small_b) = digit_is b w.low w.is_low in
    subst (λ m. IsDecimal (a ∷ b ∷ []) m) (sym w.is)
    (subst (λ c. IsDecimal (c ∷ b ∷ []) (10 * w.high + w.low)) (sym is_a)
    (subst (λ c. IsDecimal ((48 + w.high) ∷ c ∷ []) (10 * w.high + w.low)) (sym is_b) (tens w.high w.low small_a small_b)))
decimal_written (a ∷ b ∷ c ∷ rest) n e = absurd (cc)

decimal_read : (text : List ℕ) (n : ℕ) → IsDecimal text n → small_number text ≡ Some n
decimal_read text n (units a small) = digit_of a small
decimal_read text n (tens a b small_a small_b) = λ j. two_digits (digit_of a small_a j) (digit_of b small_b j)

-- ---- steps

bounded : (low high : ℕ) (o : Option ℕ) (n : ℕ) → o ≡ Some n → low ≤ n → n ≤ high → cond (nat_le low n && nat_le n high) (Some n) None ≡ Some n
bounded low high o n e l h =
    let test : (nat_le low n && nat_le n high) ≡ true = grind (arith, nat_tests) in
    ap (λ b. cond b (Some n) None) test

bounds : (low high m n : ℕ) → cond (nat_le low m && nat_le m high) (Some m) None ≡ Some n → (Some m ≡ Some n) × (low ≤ n) × (n ≤ high)
bounds low high m n e =
    let p = picked (nat_le low m && nat_le m high) m n e in
    let t = p.test in
    let is = p.is in
    (ap Some (sym is), grind (arith, nat_tests), grind (arith, nat_tests))

step_bounds : (o : Option ℕ) (n : ℕ) → step_within o ≡ Some n → (o ≡ Some n) × (1 ≤ n) × (n ≤ 59)
step_bounds None n e = absurd (cc)
step_bounds (Some m) n e = bounds 1 59 m n e

pub step_written : (text : List ℕ) (n : ℕ) → step_of (Some text) ≡ Some n → IsStep text n
step_written text n e =
    let (read, low, high) = step_bounds (small_number text) n e in
    (decimal_written text n read, low, high)

pub step_read : (text : List ℕ) (n : ℕ) → IsStep text n → step_of (Some text) ≡ Some n
step_read text n (is, low, high) = ap step_within (decimal_read text n is) ∙ bounded 1 59 (Some n) n refl low high

-- ---- numbers and names

within_bounds : (f : Field) (o : Option ℕ) (n : ℕ) → within f o ≡ Some n → (o ≡ Some n) × (least_of f ≤ n) × (n ≤ greatest_of f)
within_bounds f None n e = absurd (cc)
within_bounds f (Some m) n e = bounds (least_of f) (greatest_of f) m n e

written_by : (b : Bool) (f : Field) (text : List ℕ) (n : ℕ) → cond b (named f text) (within f (small_number text)) ≡ Some n → IsNumber f text n
written_by true f text n e = name e
written_by false f text n e =
    let (read, low, high) = within_bounds f (small_number text) n e in
    number (decimal_written text n read) low high

pub number_written : (f : Field) (text : List ℕ) (n : ℕ) → number_of f text ≡ Some n → IsNumber f text n
number_written f text n e = written_by (length text == 3) f text n e

few_digits : (text : List ℕ) (n : ℕ) → IsDecimal text n → (length text == 3) ≡ false
few_digits text n (units a small) = refl
few_digits text n (tens a b small_a small_b) = refl

three_letters : (f : Field) → list_all (λ name. length name == 3) (names f) ≡ true
three_letters Minute = refl
three_letters Hour = refl
three_letters Day = refl
three_letters Month = refl
three_letters Weekday = refl

pub some_mapped : (g : ℕ → ℕ) (o : Option ℕ) (n : ℕ) → option_map g o ≡ Some n → (m : ℕ) × (o ≡ Some m)
some_mapped g None n e = absurd (cc)
some_mapped g (Some m) n e = (m, refl)

name_length : (f : Field) (text : List ℕ) (n : ℕ) → named f text ≡ Some n → (length text == 3) ≡ true
name_length f text n e =
    let q : List ℕ → Bool = λ known. bytes_eq known (map to_ascii_lowercase text) in
    let (i, at) = some_mapped (λ i. i + least_of f) (position q (names f)) n e in
    let found = position-Some q (names f) i [] at in
    let same = (bytes_eq-Decides (get_or (names f) i []) (map to_ascii_lowercase text)).0 found.1 in
    let len : length (get_or (names f) i []) ≡ length text = ap length same ∙ length-map text to_ascii_lowercase in
    let three = AllPass-from_list_all (λ known. length known == 3) (names f) (three_letters f) i [] found.0 in
    ap (λ l. l == 3) (sym len) ∙ three

pub number_read : (f : Field) (text : List ℕ) (n : ℕ) → IsNumber f text n → number_of f text ≡ Some n
number_read f text n (number is low high) =
    ap (λ b. cond b (named f text) (within f (small_number text))) (few_digits text n is)
    ∙ ap (within f) (decimal_read text n is)
    ∙ bounded (least_of f) (greatest_of f) (Some n) n refl low high
number_read f text n (name e) = ap (λ b. cond b (named f text) (within f (small_number text))) (name_length f text n e) ∙ e
