-- What is heard of a program.
use Rattle.std.specs.Prelude.{◌≡◌, ◌≤◌, ◌<◌, ℕ, List, [], length}
use Rattle.bf_value.specs.Line.{last_line_of}
use Rattle.bf_try.specs.declared.answers.Exit.{Exit}
use Rattle.bf_try.specs.declared.answers.Line.{Line}
use Rattle.bf_try.specs.declared.answers.Raw.{Raw}

-- the last line of an output within the limit, or too much past it; where a read failed, nothing is said of the output
abbrev pub IsLineOf : List ℕ → Line → Type 0
IsLineOf output (Line.Bytes line) = (line ≡ last_line_of output) × (length output ≤ 1_048_576)
IsLineOf output Line.TooMuch = 1_048_576 < length output
IsLineOf output Line.ReadFault = Unit {0}

-- nothing was started, and nothing printed
abbrev pub not_started_raw_of : Raw
not_started_raw_of = record { exit = Exit.NotStarted; line = Line.Bytes [] }
