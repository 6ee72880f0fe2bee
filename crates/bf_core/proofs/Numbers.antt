-- Tests of numbers.
use Rattle.std.proofs.Common.{◌≡◌, ◌<◌, ◌≤◌, ◌⊎◌, ◌+◌, ℕ, true, false, nat_le, arith}
use Rattle.std.proofs.lemmas.Bool.Decides.{nat_tests}

pub le_from : (a b : ℕ) → nat_le a b ≡ true → a ≤ b
le_from a b e = grind (arith, nat_tests)

pub lt_from : (a b : ℕ) → nat_le a b ≡ false → b < a
lt_from a b e = grind (arith, nat_tests)

pub below_or : (i n : ℕ) → i < n + 1 → (i < n) ⊎ (i ≡ n)
below_or i n l = grind arith
