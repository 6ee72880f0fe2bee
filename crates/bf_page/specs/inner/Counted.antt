-- Texts that are too long for the bytes of 63 to be counted.
use Rattle.std.specs.Prelude.{ℕ, nat_lt, Bool, List, length}

abbrev pub is_long : List ℕ → Bool
is_long text = nat_lt 288_230_376_151_711_744 (length text)
