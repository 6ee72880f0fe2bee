-- What is asked of a grid.
use Rattle.std.specs.Prelude.{◌&&◌, int_le, ℤ, Bool, true, Option, None, Some}
use Rattle.jiff.specs.declared.timestamp.Timestamp.{Timestamp}
use Rattle.bf_marks.specs.declared.view.View.{View}

-- a bound that isn't asked for holds
abbrev pub starts_from_in : Option Timestamp → ℤ → Bool
starts_from_in None start = true
starts_from_in (Some from) start = int_le from.nanosecond start

abbrev pub starts_up_to_in : Option Timestamp → ℤ → Bool
starts_up_to_in None start = true
starts_up_to_in (Some to) start = int_le start to.nanosecond

abbrev pub in_range : View → ℤ → Bool
in_range view start = starts_from_in view.from start && starts_up_to_in view.to start
