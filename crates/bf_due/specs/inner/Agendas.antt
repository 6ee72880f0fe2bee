-- Which of two steps of an agenda comes first.
use Rattle.std.specs.Prelude.{◌≡◌, ◌⊎◌, ◌<◌, ◌≤◌}
use Rattle.bf_due.specs.declared.agenda.Turn.{Turn}
use Rattle.bf_due.specs.declared.agenda.Step.{Step}
use Rattle.bf_due.specs.Steps.{kind_of}
use Rattle.bf_due.specs.Agendas.{event_of}

-- the turn comes before the other, or is it: by run, by rank and in the order of the file
abbrev pub TurnComes : Turn → Turn → Type 0
TurnComes turn other =
    (turn.run < other.run) ⊎ ((turn.run ≡ other.run)
    × ((turn.rank < other.rank) ⊎ ((turn.rank ≡ other.rank) × (turn.task ≤ other.task))))

-- the step comes before the other, or is it: by kind, and then as their turns do
abbrev pub Comes : Step → Step → Type 0
Comes (Step.Close run) (Step.Close other) = run ≤ other
Comes Step.Open Step.Open = Unit {0}
Comes (Step.Settle turn) (Step.Settle other) = TurnComes turn other
Comes (Step.Expand turn) (Step.Expand other) = TurnComes turn other
Comes step other = kind_of (event_of step) < kind_of (event_of other)
