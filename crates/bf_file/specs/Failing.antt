-- Calls that fail.
use Rattle.std.specs.Prelude.{Bool, true, Result, Ok, Err}

-- whether some call has failed, where this is whether one did before the last, and what the last came to
abbrev pub failed_by : {A E : Type 0} → Bool → Result A E → Bool
failed_by before (Ok a) = before
failed_by before (Err fault) = true
