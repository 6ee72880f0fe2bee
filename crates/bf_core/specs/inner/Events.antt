-- What a run's state is worked out by.
use Rattle.std.specs.Prelude.{Bool, true, false, Option, Some, None}
use Rattle.bf_core.specs.Terms.{RunPhase, TaskValue}

abbrev pub is_closed : RunPhase → Bool
is_closed RunPhase.Closed = true
is_closed _ = false

-- the value of a settled task, and Blocked of any other
abbrev pub value_or_blocked : Option TaskValue → TaskValue
value_or_blocked None = TaskValue.Blocked
value_or_blocked (Some value) = value
