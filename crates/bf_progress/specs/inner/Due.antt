-- What is to be told at a moment, and what runs.
use Rattle.std.specs.Prelude.{◌≡◌, ℕ, ◌-◌, ◌/◌, ◌==◌, nat_lt, Bool, true, false, not, ◌&&◌, ◌||◌, ◌⊎◌, List, [], ◌∷◌, ◌++◌, filter}
use Rattle.std.specs.Ordering.{int_eq}
use Rattle.std.specs.Duration.{as_nanos}
use Rattle.std.specs.declared.time.Duration.{Duration}
use Rattle.bf_value.specs.declared.name.JobName.{JobName}
use Rattle.bf_core.specs.declared.event.Event.{Event}
use Rattle.bf_progress.specs.declared.begun.Begun.{Begun}
use Rattle.bf_progress.specs.declared.delayed.Delayed.{Delayed}
use Rattle.bf_progress.specs.declared.board.Board.{Board}
use Rattle.bf_progress.specs.declared.due.Due.{Due}

-- another try than the one of this name
abbrev pub is_other : JobName → Begun → Bool
is_other name begun =
    not ((begun.name.run == name.run) && (begun.name.task == name.task)
    && int_eq begun.name.index name.index && (begun.name.attempt == name.attempt))

-- which tries run behind an event, in the order in which they began
abbrev pub running_after : Event → Duration → List Begun → List Begun
running_after (Event.Begin name) now running = running ++ record { name = name; at = now } ∷ []
running_after (Event.End name outcome) now running = filter (is_other name) running
running_after _ now running = running

-- so they are, but that one that begins is left out where memory is wanting for it
abbrev pub IsRunningAfter : Event → Duration → List Begun → List Begun → Type 0
IsRunningAfter event now old new = (new ≡ running_after event now old) ⊎ (new ≡ old)

-- a tick of the clock changes nothing; each other event has changed what is told, now, and no minute has passed since
abbrev pub IsNoted : Event → ℕ → Duration → Board → Board → Type 0
IsNoted (Event.Tick moment) running now old new = new ≡ old
IsNoted event running now old new =
    (new.counts.running ≡ running) × (new.has_changed ≡ true) × (new.changed ≡ now)
    × (new.minutes ≡ 0) × (new.shown ≡ old.shown)

-- the whole seconds from one moment to another
abbrev pub seconds_between_of : Duration → Duration → ℕ
seconds_between_of since now = (as_nanos now - as_nanos since) / 1_000_000_000

-- no event has come for a minute more than was told
abbrev pub is_minute_over_in : Board → Duration → Bool
is_minute_over_in board now = nat_lt board.minutes (seconds_between_of board.changed now / 60)

-- the counts have changed, or are kept on a terminal, and were shown a second ago
abbrev pub is_line_due_in : Board → Duration → Bool → Bool
is_line_due_in board now keeps_line =
    (board.has_changed || keeps_line) && nat_lt 0 (seconds_between_of board.shown now)

abbrev pub counts_due : Bool → Due
counts_due true = Due.Counts
counts_due false = Due.Nothing

-- behind a minute without an event the try that began first of those that run or, where none runs, the one that has waited longest of
-- those that wait for their delay; and else the counts, where their line is due
abbrev pub due_at : Bool → Bool → List Begun → List Delayed → Due
due_at false line_due running waiting = counts_due line_due
due_at true line_due (first ∷ rest) waiting = Due.Longest first
due_at true line_due [] (first ∷ rest) = Due.Delayed first
due_at true line_due [] [] = counts_due line_due

abbrev pub due_of : Board → Duration → Bool → Due
due_of board now keeps_line =
    due_at (is_minute_over_in board now) (is_line_due_in board now keeps_line) board.running.items
    board.delayed.items

-- what was due is told
abbrev pub shown_of : Board → Due → Duration → Board
shown_of board Due.Nothing now = board
shown_of board Due.Counts now = record board { has_changed = false; shown = now }
shown_of board (Due.Longest begun) now =
    record board { minutes = seconds_between_of board.changed now / 60 }
shown_of board (Due.Delayed delayed) now =
    record board { minutes = seconds_between_of board.changed now / 60 }
