-- What came of the tries of an instance.
use Rattle.std.specs.Prelude.{ℕ, ◌+◌, ◌-◌, ◌==◌, if◌then◌else◌, List, [], ◌∷◌, ◌++◌, codes}
use Rattle.bf_core.specs.Terms.{Dag, Outcome, TaskResult, is_branch_in, task_of}
use Rattle.bf_try.specs.Grades.{gives_items_in}
use Rattle.bf_wording.specs.Numbers.{number_text}

abbrev pub all_failed_text_of : ℕ → List ℕ
all_failed_text_of tries =
    if tries == 1 then codes "Its one try failed." else codes "All its "
    ++ (number_text tries ++ codes " tries failed.")

abbrev pub not_allowed_text_of : ℕ → ℕ → List ℕ
not_allowed_text_of tries most =
    codes "Its try " ++ (number_text tries
    ++ (codes " failed, and this graph allows " ++ (number_text most ++ codes ".")))

-- of one that failed, where the graph allows so many tries
abbrev pub failed_text_of : ℕ → ℕ → List ℕ
failed_text_of tries most =
    if tries == most then all_failed_text_of tries else not_allowed_text_of tries most

abbrev pub later_text_of : ℕ → List ℕ
later_text_of tries =
    codes "Its try " ++ (number_text tries
    ++ (codes " succeeded, behind " ++ (number_text (tries - 1) ++ codes " that failed.")))

abbrev pub succeeded_text_of : ℕ → List ℕ
succeeded_text_of tries =
    if tries == 1 then codes "Its first try succeeded." else later_text_of tries

abbrev pub skipped_text_of : ℕ → List ℕ
skipped_text_of tries =
    codes "Its try " ++ (number_text tries ++ codes " exited with 99, which skips it.")

-- what else makes a try fail than its program
abbrev pub failings : Dag → ℕ → List (List ℕ)
failings dag task =
    (if is_branch_in (task_of dag task) then codes "A branch fails, too, where what it pushes names a task that isn't directly downstream of it." ∷ [] else [])
    ++ ((if gives_items_in dag task then codes "It fails, too, where it doesn't push a list of 0 to 1,024 items, since a task is expanded over it." ∷ [] else [])
    ++ codes "Why a try failed isn't in a report: what its program wrote to standard error says it."
    ∷ [])

abbrev pub ended : Dag → ℕ → Outcome → ℕ → List (List ℕ)
ended dag task (Outcome.Success value) tries = succeeded_text_of tries ∷ []
ended dag task Outcome.Skipped tries = skipped_text_of tries ∷ []
ended dag task Outcome.Failed tries =
    failed_text_of tries ((task_of dag task).retries + 1) ∷ failings dag task

abbrev pub tried_of : Dag → ℕ → TaskResult → List (List ℕ)
tried_of dag task result = ended dag task result.outcome result.tries
