-- The tasks that failed themselves, while they are found.
use Rattle.std.specs.Prelude.{ℕ, ◌+◌, ℤ, nat_lt, if◌then◌else◌, List, [], ◌∷◌, length, map}
use Rattle.bf_grid.specs.declared.failed_tasks.Failing.{Failing}

-- a task with its starts
abbrev pub pair_of : Failing → ℕ × List ℤ
pair_of failing = (failing.task, map (λ start. start.at.nanosecond) failing.starts.items)

-- how many stand before the first with fewer than so many starts
abbrev pub first_fewer : ℕ → List Failing → ℕ
first_fewer count [] = 0
first_fewer count (failing ∷ rest) =
    if nat_lt (length failing.starts.items) count then 0 else first_fewer count rest + 1
