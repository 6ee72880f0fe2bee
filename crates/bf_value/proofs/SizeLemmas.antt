-- How many bytes stand in the compact text of a value.
use Rattle.std.proofs.Common.{◌≡◌, ℕ, suc, ◌+◌, ◌-◌, ◌*◌, ◌^◌, ◌/◌, ◌%◌, ◌<◌, ◌≤◌, Bool, true, false, Option, None, cond, List, [], ◌∷◌, ◌++◌, length, length-append, get_or, nat_lt, ◌==◌, refl, sym, ap, ◌∙◌, arith}
use Rattle.std.specs.List.{sum_by}
use Rattle.std.specs.Fmt.{decimal}
use Rattle.std.specs.Option.{SomeIff}
use Rattle.std.proofs.lemmas.Fmt.{decimal_by_steps, decimal_digit, length-decimal-le}
use Rattle.std.proofs.lemmas.List.Concat.{length-flat_map}
use Rattle.std.proofs.lemmas.List.Sums.{sum_by-cons}
use Rattle.std.proofs.Math.Nat.{pow-le-pow_right, pow-succ'}
use Rattle.json.specs.Print.{escape, escape_byte, escape_letter, quoted}
use Rattle.serde_json.specs.Written.{items_text}
use Rattle.bf_value.specs.Json.{data_items, json_of}
use Rattle.bf_value.specs.inner.Json.{list_text}
use Rattle.bf_value.specs.Plain.{Plains, plain_depth, plains_depth}
use Rattle.bf_value.specs.Views.{plain_of, plains_of}
use Rattle.bf_value.specs.declared.xval.Xval.{Xval}

-- ---- room

pub room_short : (o : Option ℕ) (n room : ℕ) → o ≡ None → room < n → SomeIff o (n ≤ room) (room - n)
room_short o n room e h = rw e (λ k. omega arith)

pub room_left : (left n room : ℕ) → left + n ≡ room → (n ≤ room) × (left ≡ room - n)
room_left left n room e = (omega arith, omega arith)

-- ---- numbers

-- a number is below the power of 10 of its length
below_power : (n : ℕ) → n < 2 ^ 64 → n < 10 ^ length (decimal n)
below_power = decimal_by_steps (λ m ds. m < 10 ^ length ds) (λ m l. omega arith) more
  where
    more : (m : ℕ) (ds : List ℕ) → 10 ≤ m → m / 10 < 10 ^ length ds → m < 10 ^ length (ds ++ ((48 + m % 10) ∷ []))
    more m ds l h =
        let longer : length (ds ++ ((48 + m % 10) ∷ [])) ≡ suc (length ds) = omega (arith, length-append ds ((48 + m % 10) ∷ [])) in
        rw (longer, pow-succ' 10 (length ds)) (omega arith)

pub length_decimal_zero : length (decimal 0) ≡ 1
length_decimal_zero = ap length (decimal_digit 0 (omega arith))

pub length_decimal : (n k : ℕ) → n < 2 ^ 64 → 10 ^ k ≤ n → n < 10 * 10 ^ k → length (decimal n) ≡ k + 1
length_decimal n k small low high =
    let above : length (decimal n) ≤ k → ⊥ = λ h. omega (arith, pow-le-pow_right {n = 10} (omega arith) h, below_power n small) in
    let below : n < 10 ^ suc k = rw (pow-succ' 10 k) high in
    omega (arith, above, length-decimal-le (suc k) n (omega arith) below small)

-- ---- texts

length_cond : (b c : Bool) (xs ys zs : List ℕ) → length (cond b xs (cond c ys zs)) ≡ cond b (length xs) (cond c (length ys) (length zs))
length_cond true c xs ys zs = refl
length_cond false true xs ys zs = refl
length_cond false false xs ys zs = refl

pub length_escape_byte : (x : ℕ) → length (escape_byte x) ≡ cond (nat_lt 0 (escape_letter x)) 2 (cond (nat_lt x 32) 6 1)
unfolding escape_byte
length_escape_byte x = length_cond (nat_lt 0 (escape_letter x)) (nat_lt x 32) _ _ _

pub ruleset escape_lengths = (length_escape_byte)

-- the bytes that a byte of a text takes
abbrev pub byte_size : ℕ → ℕ
byte_size x = length (escape_byte x)

pub length_quoted : (s : List ℕ) → length (quoted s) ≡ 2 + sum_by byte_size s
length_quoted s = omega (arith, length-append (escape s) (34 ∷ []), length-flat_map escape_byte s)

-- ---- lists

pub all_below : (xs : List Xval) (n : ℕ) → 0 < n → ((i : ℕ) (d : Xval) → i < length xs → plain_depth (plain_of (get_or xs i d)) < n) → plains_depth (plains_of xs) ≤ n
all_below [] n some below = some
all_below (x ∷ xs) n some below = omega (arith, below 0 x (omega arith), all_below xs n some (λ i d h. below (suc i) d (omega arith)))

-- the bytes that an item of a list takes, with the comma or the bracket that follows it
abbrev pub item_size : Xval → ℕ
item_size x = length (json_of x) + 1

rest_size : (xs : List Xval) → length (items_text true (data_items (plains_of xs))) ≡ 1 + sum_by item_size xs
rest_size [] = refl
rest_size (x ∷ xs) = omega (arith, length-append (json_of x) (items_text true (data_items (plains_of xs))), rest_size xs, sum_by-cons item_size x xs)

length_list_text : (xs : List Xval) → (length xs == 0) ≡ false → length (list_text (plains_of xs)) ≡ 1 + sum_by item_size xs
length_list_text [] some = cc
length_list_text (x ∷ xs) some = omega (arith, length-append (json_of x) (items_text true (data_items (plains_of xs))), rest_size xs, sum_by-cons item_size x xs)

-- the text of a list that holds these items, and not none
pub list_size : (ps : Plains) (items : List Xval) (count : ℕ) → plains_of items ≡ ps → length items ≡ count → false ≡ (count == 0) → length (list_text ps) ≡ 1 + sum_by item_size items
list_size ps items count seen many some =
    ap (λ qs. length (list_text qs)) (sym seen) ∙ length_list_text items (ap (λ n. n == 0) many ∙ sym some)
