use Rattle.std.proofs.Common.{◌≡◌, ℕ, ◌<◌, Option, get_or}
use Rattle.bf_value.specs.declared.xval.Xval.{Xval}
use Rattle.bf_xcom.proofs.values.are_same.Given as goal

-- the values before are equal
abbrev pub invariant-loop-i : goal.invariant-loop-i
invariant-loop-i l = (k : ℕ) (d : Option Xval) → k < l.i → get_or l.one k d ≡ get_or l.other k d
