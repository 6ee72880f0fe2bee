-- Whatever is told may be shown.
use Rattle.std.proofs.Common.{ℕ, List, Option, None, Some}
use Rattle.bf_failure.specs.Told.{may_tell_to}

pub anything : {T : Type 0} (teller : Option T) (line : List ℕ) → may_tell_to (λ t l. Unit {0}) teller line
anything None line = tt
anything (Some t) line = tt
