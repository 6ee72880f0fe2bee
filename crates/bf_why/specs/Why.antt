-- Why a task has its state in a run, in sentences; where it began is none of them.
use Rattle.std.specs.Prelude.{ℕ, Bool, true, false, if◌then◌else◌, List, [], ◌∷◌, ◌++◌, Option, None, Some, codes, is_some, length, map, slice_get}
use Rattle.std.specs.Char.{is_ascii_digit}
use Rattle.bf_core.specs.Terms.{Counts, Dag, TaskResult, task_of}
use Rattle.bf_core.specs.Deciding.{counts_of_results_of}
use Rattle.bf_report.specs.declared.report.RunReport.{RunReport}
use Rattle.bf_report.specs.declared.report.TaskReport.{TaskReport}
use Rattle.bf_reason.specs.declared.cause.StateCause.{StateCause}
use Rattle.bf_reason.specs.Letters.{letter_for}
use Rattle.bf_wording.specs.Numbers.{count_text_of}
use Rattle.bf_why.specs.Counted.{counts_text_of}
use Rattle.bf_why.specs.Decided.{decided_of}
use Rattle.bf_why.specs.Tried.{tried_of}

-- ---- what doesn't follow from the graph

abbrev pub would_run_text_of : Bool → ℕ → List ℕ
would_run_text_of true count =
    codes "By this graph it would have run, with "
    ++ (count_text_of count (codes "instance") ++ codes ":")
would_run_text_of false count = codes "By this graph it would have run, as one instance:"

-- what the graph makes of it
abbrev pub would_be_text_of : Bool → StateCause → List ℕ
would_be_text_of expanded StateCause.NotFollowed = codes "By this graph it would be skipped:"
would_be_text_of expanded StateCause.RuleSkips = codes "By this graph it would be skipped:"
would_be_text_of expanded StateCause.HasNoItems = codes "By this graph it would be skipped:"
would_be_text_of expanded StateCause.RuleFails = codes "By this graph it would be upstream_failed:"
would_be_text_of expanded StateCause.ItemsAreMissing = codes "By this graph it would be upstream_failed:"
would_be_text_of expanded (StateCause.Runs count) = would_run_text_of expanded count
would_be_text_of expanded cause = codes "By this graph it would be no_status:"

-- of a task whose letter is a digit: the report has what isn't decided for it
abbrev pub foreign : Bool → StateCause → TaskReport → List (List ℕ)
foreign expanded cause told =
    if is_ascii_digit (letter_for expanded cause told)
    then codes "What the report has doesn't follow from this graph." ∷ would_be_text_of expanded cause
    ∷ [] else []

-- ---- what came of it

abbrev pub came_line_of : ℕ → Counts → List ℕ
came_line_of instances counts =
    codes "It came to " ++ (count_text_of instances (codes "instance")
    ++ (codes ": " ++ (counts_text_of counts ++ codes ".")))

abbrev pub tried_if_there : Dag → ℕ → Option TaskResult → List (List ℕ)
tried_if_there dag task None = []
tried_if_there dag task (Some result) = tried_of dag task result

-- of all instances of an expanded task, or of the one of this map index
abbrev pub came_to_lines_of : Dag → ℕ → List TaskResult → Option ℕ → List (List ℕ)
came_to_lines_of dag task results None =
    came_line_of (length results) (counts_of_results_of results) ∷ []
came_to_lines_of dag task results (Some index) = tried_if_there dag task (slice_get results index)

abbrev pub ended_of : Dag → ℕ → TaskReport → Option ℕ → List (List ℕ)
ended_of dag task (TaskReport.Ran instance) index = tried_of dag task instance.result
ended_of dag task (TaskReport.Mapped instances) index =
    came_to_lines_of dag task (map (λ instance. instance.result) instances) index
ended_of dag task told index = []

-- of the task, which the report has so, or of one of its instances
abbrev pub why_of : Dag → List TaskReport → Option RunReport → ℕ → StateCause → TaskReport
    → Option ℕ → List (List ℕ)
why_of dag tasks before task cause told index =
    (foreign (is_some (task_of dag task).expand) cause told
    ++ decided_of dag tasks before task cause) ++ ended_of dag task told index
