-- Numbers of one digit.
use Rattle.std.proofs.Common.{◌≡◌, ◌≤◌, ◌<◌, ◌^◌, ◌+◌, ◌-◌, ℕ, [], ◌∷◌, decimal, sym, ap, ◌∙◌, subst, arith}
use Rattle.std.specs.Str.Parse.{AllDigits}
use Rattle.std.proofs.lemmas.Fmt.{decimal_digit, decimal_injective, decimal_is_IsNumeral}
use Rattle.std.proofs.lemmas.Str.Parse.{digit_at}

-- what a digit spells has it as its text
pub digit_text : (digit : ℕ) → 48 ≤ digit → digit ≤ 57 → digit ∷ [] ≡ decimal (digit - 48)
digit_text digit low high =
    let is : 48 + (digit - 48) ≡ digit = omega (arith, low) in
    sym (decimal_digit (digit - 48) (omega (arith, low, high)) ∙ ap (λ d. d ∷ []) is)

-- and so has no other number
pub digit_of : (digit n : ℕ) → 48 ≤ digit → digit ≤ 57 → n < 2 ^ 32 → digit ∷ [] ≡ decimal n → digit - 48 ≡ n
digit_of digit n low high small is = decimal_injective (digit - 48) n (omega (arith, low, high)) (omega (arith, small)) (sym (digit_text digit low high) ∙ is)

-- the only byte of a number's text is a digit
pub is_digit : (byte n : ℕ) → n < 2 ^ 32 → byte ∷ [] ≡ decimal n → (48 ≤ byte) × (byte ≤ 57)
is_digit byte n small is = digit_at (byte ∷ []) 0 (subst (AllDigits 10) (sym is) (decimal_is_IsNumeral n (omega (arith, small))).0.1) (omega arith)
