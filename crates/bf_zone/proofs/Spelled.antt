-- What is read as an offset is written as one, and the other way round.
use Rattle.std.proofs.Common.{◌≡◌, ℕ, ◌+◌, ◌-◌, ◌*◌, ◌/◌, ◌%◌, ◌≤◌, ◌<◌, ◌==◌, nat_le, ℤ, pos, neg_ℤ, Bool, true, false, ◌&&◌, cond, List, [], ◌∷◌, Option, Some, None, refl, ap, ◌∙◌, sym, subst, arith, ◌⊎◌, inl, inr}
use Rattle.std.proofs.lemmas.Bool.Decides.{nat_tests}
use Rattle.bf_zone.specs.Offsets.{digits, clock_seconds, signed, offset_of, IsOffsetText, ahead, behind}

-- ---- two digits

digits_by : (b : Bool) (m n : ℕ) → cond b (Some m) None ≡ Some n → (b ≡ true) × (n ≡ m)
digits_by true m n e = (refl, cc)
digits_by false m n e = absurd (cc)

digits_written : (a b n : ℕ) → digits a b ≡ Some n → (a ≡ 48 + n / 10) × (b ≡ 48 + n % 10)
digits_written a b n e =
    let (test, is) = digits_by (nat_le 48 a && nat_le a 57 && nat_le 48 b && nat_le b 57) (10 * (a - 48) + (b - 48)) n e in
    let low_a : 48 ≤ a = grind (arith, nat_tests) in
    let high_a : a ≤ 57 = grind (arith, nat_tests) in
    let low_b : 48 ≤ b = grind (arith, nat_tests) in
    let high_b : b ≤ 57 = grind (arith, nat_tests) in
    (omega arith, omega arith)

digits_read : (n : ℕ) → n < 100 → digits (48 + n / 10) (48 + n % 10) ≡ Some n
digits_read n small =
    let a = 48 + n / 10 in
    let b = 48 + n % 10 in
    let high_a : 48 + n / 10 ≤ 57 = omega arith in
    let high_b : 48 + n % 10 ≤ 57 = omega arith in
    let low_a : 48 ≤ 48 + n / 10 = omega arith in
    let low_b : 48 ≤ 48 + n % 10 = omega arith in
    let test : (nat_le 48 a && nat_le a 57 && nat_le 48 b && nat_le b 57) ≡ true = grind (arith, nat_tests) in
    let same : 10 * (a - 48) + (b - 48) ≡ n = omega arith in
    ap (λ t. cond t (Some (10 * (a - 48) + (b - 48))) None) test ∙ ap Some same

-- ---- hours and minutes

record Clock (hours minutes : Option ℕ) (n : ℕ) : Type 0 where
  h : ℕ
  m : ℕ
  is_hours : hours ≡ Some h
  is_minutes : minutes ≡ Some m
  hour_in : h ≤ 23
  minute_in : m ≤ 59
  is : n ≡ h * 3_600 + m * 60

clock_by : (h m n : ℕ) → cond (nat_le h 23 && nat_le m 59) (Some (h * 3_600 + m * 60)) None ≡ Some n → Clock (Some h) (Some m) n
clock_by h m n e =
    let (test, is) = digits_by (nat_le h 23 && nat_le m 59) (h * 3_600 + m * 60) n e in
    record { h = h; m = m; is_hours = refl; is_minutes = refl; hour_in = grind (arith, nat_tests); minute_in = grind (arith, nat_tests); is = is }

clock_written : (hours minutes : Option ℕ) (n : ℕ) → clock_seconds hours minutes ≡ Some n → Clock hours minutes n
clock_written None m n e = absurd (cc)
clock_written (Some h) None n e = absurd (cc)
clock_written (Some h) (Some m) n e = clock_by h m n e

clock_read : (h m : ℕ) → h ≤ 23 → m ≤ 59 → clock_seconds (digits (48 + h / 10) (48 + h % 10)) (digits (48 + m / 10) (48 + m % 10)) ≡ Some (h * 3_600 + m * 60)
clock_read h m hour_in minute_in =
    let test : (nat_le h 23 && nat_le m 59) ≡ true = grind (arith, nat_tests) in
    (λ j. clock_seconds (digits_read h (omega arith) j) (digits_read m (omega arith) j))
    ∙ ap (λ t. cond t (Some (h * 3_600 + m * 60)) None) test

-- ---- signs

record Signed (sign : ℕ) (seconds : Option ℕ) (n : ℤ) : Type 0 where
  k : ℕ
  is_seconds : seconds ≡ Some k
  is : ((sign ≡ 43) × (n ≡ pos k)) ⊎ ((sign ≡ 45) × (n ≡ neg_ℤ (pos k)))

signed_by : (b c : Bool) (x y n : ℤ) → cond b (Some x) (cond c (Some y) None) ≡ Some n → ((b ≡ true) × (n ≡ x)) ⊎ ((c ≡ true) × (n ≡ y))
signed_by true c x y n e = inl (refl, cc)
signed_by false true x y n e = inr (refl, cc)
signed_by false false x y n e = absurd (cc)

signed_written : (sign : ℕ) (seconds : Option ℕ) (n : ℤ) → signed sign seconds ≡ Some n → Signed sign seconds n
signed_written sign None n e = absurd (cc)
signed_written sign (Some k) n e = record {
  k = k;
  is_seconds = refl;
  is = elim (signed_by (sign == 43) (sign == 45) (pos k) (neg_ℤ (pos k)) n e) as (λ _. ((sign ≡ 43) × (n ≡ pos k)) ⊎ ((sign ≡ 45) × (n ≡ neg_ℤ (pos k)))) [
    | inl p ↦ (let test = p.0 in inl (grind (arith, nat_tests), p.1))
    | inr p ↦ (let test = p.0 in inr (grind (arith, nat_tests), p.1))
  ];
}

-- ---- offsets

colon_by : (b : Bool) (r : Option ℤ) (n : ℤ) → cond b r None ≡ Some n → (b ≡ true) × (r ≡ Some n)
colon_by true r n e = (refl, e)
colon_by false r n e = absurd (cc)

-- the same text and offset
made : (text written : List ℕ) (n shown : ℤ) → text ≡ written → n ≡ shown → IsOffsetText written shown → IsOffsetText text n
made text written n shown e h w = subst (λ t. IsOffsetText t n) (sym e) (subst (IsOffsetText written) (sym h) w)

parts_written : (sign a b colon c d : ℕ) (n : ℤ) → colon ≡ 58 → signed sign (clock_seconds (digits a b) (digits c d)) ≡ Some n → IsOffsetText (sign ∷ a ∷ b ∷ colon ∷ c ∷ d ∷ []) n
parts_written sign a b colon c d n is_colon e =
    let s = signed_written sign (clock_seconds (digits a b) (digits c d)) n e in
    let w = clock_written (digits a b) (digits c d) s.k s.is_seconds in
    let (is_a, is_b) = digits_written a b w.h w.is_hours in
    let (is_c, is_d) = digits_written c d w.m w.is_minutes in
    elim s.is as (λ _. IsOffsetText (sign ∷ a ∷ b ∷ colon ∷ c ∷ d ∷ []) n) [
      | inl p ↦ made _ _ n _ (λ j. p.0 j ∷ is_a j ∷ is_b j ∷ is_colon j ∷ is_c j ∷ is_d j ∷ []) (p.1 ∙ ap pos w.is) (ahead w.h w.m w.hour_in w.minute_in)
      | inr p ↦ made _ _ n _ (λ j. p.0 j ∷ is_a j ∷ is_b j ∷ is_colon j ∷ is_c j ∷ is_d j ∷ []) (p.1 ∙ ap (λ k. neg_ℤ (pos k)) w.is) (behind w.h w.m w.hour_in w.minute_in)
    ]

-- what is read as an offset is written so
pub offset_written : (text : List ℕ) (n : ℤ) → offset_of text ≡ Some n → IsOffsetText text n
offset_written (sign ∷ a ∷ b ∷ colon ∷ c ∷ d ∷ []) n e =
    let (test, rest) = colon_by (colon == 58) (signed sign (clock_seconds (digits a b) (digits c d))) n e in
    parts_written sign a b colon c d n (grind (arith, nat_tests)) rest
offset_written text n e = absurd (cc)

-- what is written so is read
pub offset_read : (text : List ℕ) (n : ℤ) → IsOffsetText text n → offset_of text ≡ Some n
offset_read text n (ahead h m hour_in minute_in) = ap (signed 43) (clock_read h m hour_in minute_in)
offset_read text n (behind h m hour_in minute_in) = ap (signed 45) (clock_read h m hour_in minute_in)
