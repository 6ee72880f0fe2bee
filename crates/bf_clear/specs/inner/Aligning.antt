-- What a report tells of the tasks of a plan and of runs, however many others it tells of: by the ids of tasks and the data intervals of runs.
use Rattle.std.specs.Prelude.{◌≡◌, ℕ, List, [], ◌∷◌, AllPairs, map, Option, None}
use Rattle.bf_interval.specs.declared.interval.Interval.{Interval}
use Rattle.bf_report.specs.declared.report.RunReport.{RunReport}
use Rattle.bf_clear.specs.Aligning.{told_at, tasks_at}

-- no two tasks stand at one place
abbrev pub AreApart : List (Option ℕ) → Type 0
AreApart places = AllPairs (λ one other. one ≡ other → one ≡ None) places

-- of each run what is told of it, by the places of the tasks
abbrev pub AreAlignedBy : List (Option ℕ) → List RunReport → List Interval → List RunReport → Type 0
AreAlignedBy places told [] [] = Unit {0}
AreAlignedBy places told (interval ∷ intervals) (run ∷ runs) =
    (run.interval ≡ interval) × (run.tasks ≡ map (told_at (tasks_at told interval)) places)
    × AreAlignedBy places told intervals runs
AreAlignedBy places told [] (run ∷ runs) = ⊥
AreAlignedBy places told (interval ∷ intervals) [] = ⊥
