-- Bounds of a state: no task has more instances than a source may give items, and each finished one ended as its tries may.
use Rattle.std.specs.Prelude.{◌≡◌, ℕ, ◌≤◌, true, length}
use Rattle.std.specs.List.{AllByRecursion}
use Rattle.bf_try.specs.Grades.{most_items}
use Rattle.bf_core.specs.Terms.{Cell, Dag, Phase, State, fits_in}
use Rattle.bf_core.specs.Events.{cell_at}

abbrev pub IsFew : Cell → Type 0
IsFew (Cell.Ran instances) = length instances ≤ most_items
IsFew _ = Unit {0}

abbrev pub AreFew : State → Type 0
AreFew state = (run task : ℕ) → IsFew (cell_at state run task)

-- an instance of the task that has finished has an outcome that fits
abbrev pub IsFitting : Dag → ℕ → Phase → Type 0
IsFitting dag task (Phase.Finished outcome) = fits_in dag task outcome ≡ true
IsFitting dag task _ = Unit {0}

abbrev pub HasFitting : Dag → ℕ → Cell → Type 0
HasFitting dag task (Cell.Ran instances) =
    AllByRecursion (λ instance. IsFitting dag task instance.phase) instances
HasFitting dag task _ = Unit {0}

abbrev pub AreFitting : Dag → State → Type 0
AreFitting dag state = (run task : ℕ) → HasFitting dag task (cell_at state run task)
