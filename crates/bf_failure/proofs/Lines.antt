-- Why a line failed, by the value that was read of it.
use Rattle.std.proofs.Common.{◌≡◌, ℕ, List, Bool, true, false, Option, Some, if◌then◌else◌, IsUtf8, refl, ap, ◌∙◌}
use Rattle.std.specs.Str.{is_utf8}
use Rattle.std.proofs.lemmas.Str.{IsUtf8-from_is_utf8, is_utf8-from_IsUtf8}
use Rattle.bf_value.specs.Json.{value_of_line}
use Rattle.bf_value.specs.declared.xval.Xval.{Xval}
use Rattle.bf_plan.specs.declared.plan.Dag.{Dag}
use Rattle.bf_failure.specs.declared.failure.Failure.{Failure}
use Rattle.bf_failure.specs.declared.failure.Failure.TheVariants.{NotUtf8}
use Rattle.bf_failure.specs.Failures.{line_failure, value_failure}

pub found_in_line : (dag : Dag) (task : ℕ) (line : List ℕ) (value : Option Xval) (failure : Option Failure) → IsUtf8 line → value ≡ value_of_line line
    → failure ≡ value_failure dag task value → failure ≡ line_failure dag task line
found_in_line dag task line value failure text same found = rw (is_utf8-from_IsUtf8 line text) (found ∙ ap (value_failure dag task) same)

pub found_not_utf8 : (dag : Dag) (task : ℕ) (line : List ℕ) → ¬ (IsUtf8 line) → Some NotUtf8 ≡ line_failure dag task line
found_not_utf8 dag task line no_text = by (is_utf8 line) refl
  where
    by : (b : Bool) → is_utf8 line ≡ b → Some NotUtf8 ≡ (if b then value_failure dag task (value_of_line line) else Some NotUtf8)
    by true e = absurd (no_text (IsUtf8-from_is_utf8 line e))
    by false e = refl
