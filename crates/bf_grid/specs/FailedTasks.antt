-- The tasks that failed themselves.
use Rattle.std.specs.Prelude.{ℕ, ◌-◌, ℤ, max, nat_lt, if◌then◌else◌, Bool, List, [], ◌∷◌, ◌++◌, length, take, map, fold, filter, codes}
use Rattle.std.specs.List.{flat_map}
use Rattle.bf_plan.specs.declared.plan.Dag.{Dag}
use Rattle.bf_plan.specs.Plans.{task_of}
use Rattle.bf_report.specs.declared.report.RunReport.{RunReport}
use Rattle.bf_marks.specs.Labels.{left, right}
use Rattle.bf_marks.specs.Tallies.{tally_in}
use Rattle.bf_wording.specs.Lists.{name_list_of}
use Rattle.bf_wording.specs.Numbers.{number_text, count_text_of}
use Rattle.bf_wording.specs.Moments.{short_moment_of}

-- an instance of the task failed in the run
abbrev pub has_failed : ℕ → RunReport → Bool
has_failed task run = nat_lt 0 (tally_in task run).failed

-- where those runs start
abbrev pub failed_starts_of : List RunReport → ℕ → List ℤ
failed_starts_of runs task =
    map (λ run. run.interval.start.nanosecond) (filter (has_failed task) runs)

-- a task with its starts comes behind those with as many or more
abbrev pub placed : ℕ × List ℤ → List (ℕ × List ℤ) → List (ℕ × List ℤ)
placed new [] = new ∷ []
placed new (first ∷ rest) =
    if nat_lt (length first.1) (length new.1) then new ∷ first ∷ rest else first ∷ placed new rest

abbrev pub with_starts : ℕ → List ℤ → List (ℕ × List ℤ) → List (ℕ × List ℤ)
with_starts task [] found = found
with_starts task (start ∷ starts) found = placed (task, start ∷ starts) found

-- those with the most runs first
abbrev pub failing_of : List RunReport → List ℕ → List (ℕ × List ℤ)
failing_of runs tasks =
    fold (λ found task. with_starts task (failed_starts_of runs task) found) [] tasks

abbrev pub id_width_of : Dag → List (ℕ × List ℤ) → ℕ
id_width_of dag found = fold (λ n pair. max n (length (task_of dag pair.0).id)) 0 found

-- a task, in how many runs it failed, and in which
abbrev pub failing_line : Dag → ℕ → ℕ → ℕ × List ℤ → List ℕ
failing_line dag longest widest (task, starts) =
    codes "  " ++ (left longest (task_of dag task).id
    ++ (codes "  " ++ (right widest (count_text_of (length starts) (codes "run"))
    ++ (codes "  " ++ (name_list_of 3 (map short_moment_of starts) ++ codes "\n")))))

abbrev pub further_line : ℕ → List ℕ
further_line count =
    if nat_lt 20 count then codes "  and " ++ (number_text (count - 20) ++ codes " more\n") else []

-- at most 20 of them
abbrev pub failing_text : Dag → List (ℕ × List ℤ) → List ℕ
failing_text dag [] = []
failing_text dag (first ∷ rest) =
    codes "\ntasks that failed themselves\n"
    ++ (flat_map (failing_line dag (id_width_of dag (take 20 (first
    ∷ rest))) (length (count_text_of (length first.1) (codes "run")))) (take 20 (first ∷ rest))
    ++ further_line (length (first ∷ rest)))
