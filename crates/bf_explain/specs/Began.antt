-- Where it began, in a sentence.
use Rattle.std.specs.Prelude.{ℕ, ◌==◌, ◌||◌, not, Bool, if◌then◌else◌, List, [], ◌∷◌, ◌++◌, Option, None, Some, codes, length, slice_get}
use Rattle.std.specs.List.{flat_map, list_any}
use Rattle.bf_core.specs.Terms.{Dag, Xval, task_of}
use Rattle.bf_moment.specs.Moment.{moment_text}
use Rattle.bf_report.specs.declared.report.TaskReport.{TaskReport}
use Rattle.bf_report.specs.declared.report.RunReport.{RunReport}
use Rattle.bf_report.specs.declared.report.Report.{Report}
use Rattle.bf_reason.specs.Runs.{tasks_in}
use Rattle.bf_xcom.specs.Pulls.{pushed_by}
use Rattle.bf_wording.specs.Lists.{name_list_of}
use Rattle.bf_wording.specs.Values.{value_text_of}
use Rattle.bf_why.specs.Decided.{id_of}
use Rattle.bf_roots.specs.declared.step.Began.{Began}
use Rattle.bf_roots.specs.declared.step.Root.{Root}

-- what the first instance of a task pushed
abbrev pub pushed_first : Option TaskReport → Option Xval
pushed_first (Some (TaskReport.Ran instance)) = pushed_by instance.result.outcome
pushed_first (Some (TaskReport.Mapped (instance ∷ instances))) = pushed_by instance.result.outcome
pushed_first told = None

abbrev pub began_text_of : Began → Option TaskReport → List ℕ
began_text_of Began.Failed told = codes "failed"
began_text_of Began.Exited told = codes "exited with 99"
began_text_of Began.Pushed told = codes "pushed " ++ value_text_of 200 (pushed_first told)
began_text_of Began.PushedNoItems told = codes "pushed no items"

-- the start of a run that is there
abbrev pub start_text_of : Option RunReport → List ℕ
start_text_of None = []
start_text_of (Some run) = moment_text run.interval.start.nanosecond

-- where it isn't in this run
abbrev pub other_run_text_of : Report → ℕ → ℕ → List ℕ
other_run_text_of report run other =
    if other == run then [] else codes " in the run of "
    ++ start_text_of (slice_get report.runs other)

-- as `total failed`, or `total failed in the run of 2024-03-04T00:00:00Z`
abbrev pub root_text_of : Dag → Report → ℕ → Root → List ℕ
root_text_of dag report run root =
    id_of dag root.task ++ (codes " "
    ++ (began_text_of root.began (slice_get (tasks_in report root.run) root.task)
    ++ other_run_text_of report run root.run))

-- it is in another run, or not directly upstream
abbrev pub is_far_root_in : Dag → ℕ → ℕ → Root → Bool
is_far_root_in dag run task root =
    not (root.run == run) || not (list_any (λ upstream. upstream == root.task)
    (task_of dag task).upstreams)

abbrev pub far_text : Dag → Report → ℕ → ℕ → Root → List (List ℕ)
far_text dag report run task root =
    if is_far_root_in dag run task root then root_text_of dag report run root ∷ [] else []

abbrev pub began_sentence_of : List (List ℕ) → List (List ℕ)
began_sentence_of names =
    if length names == 0 then [] else (codes "It began where " ++ (name_list_of 5 names ++ codes "."))
    ∷ []

-- of the roots of a task in a run those that are more than an edge away
abbrev pub began_lines_of : Dag → Report → ℕ → ℕ → List Root → List (List ℕ)
began_lines_of dag report run task roots =
    began_sentence_of (flat_map (far_text dag report run task) roots)
