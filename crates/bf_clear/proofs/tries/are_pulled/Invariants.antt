use Rattle.std.proofs.Common.{◌≡◌, ℕ, ◌<◌, Option, get_or, map}
use Rattle.bf_value.specs.declared.xval.Xval.{Xval}
use Rattle.bf_report.specs.declared.report.Pull.{Pull}
use Rattle.bf_clear.proofs.tries.are_pulled.Given as goal

-- the values before are equal
abbrev pub invariant-loop-i : goal.invariant-loop-i
invariant-loop-i l = (k : ℕ) (d : Option Xval) → k < l.i → get_or (map (λ (p : Pull). p.value) l.pulls) k d ≡ get_or l.values k d
