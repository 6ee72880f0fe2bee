-- What a raw answer is worth: the outcome of a try, from how its program ended and its last line.
use Rattle.std.specs.Prelude.{ℕ, ◌==◌, ◌≡◌, ℤ, pos, negsuc, nat_le, length, Bool, true, false, not, ◌&&◌, ◌||◌, if◌then◌else◌, List, Option, None, Some, is_some}
use Rattle.std.specs.List.{list_any}
use Rattle.std.specs.Str.{is_utf8}
use Rattle.bf_value.specs.Json.{deepest, json_of, value_of_line}
use Rattle.bf_value.specs.Plain.{plains_depth, IsSound}
use Rattle.bf_value.specs.Views.{plain_of, xvals_of}
use Rattle.bf_value.specs.declared.xval.Xval.{Xval}
use Rattle.bf_value.specs.declared.xval.Xval.TheVariants.{Nil, List as ListOf}
use Rattle.bf_rule.specs.Branches.{names_downstreams_in}
use Rattle.bf_plan.specs.Plans.{task_of, shape_of, is_branch_in}
use Rattle.bf_plan.specs.declared.plan.Dag.{Dag}
use Rattle.bf_xcom.specs.declared.values.Outcome.{Outcome}
use Rattle.bf_try.specs.declared.answers.Exit.{Exit}
use Rattle.bf_try.specs.declared.answers.Line.{Line}
use Rattle.bf_try.specs.declared.answers.Raw.{Raw}

-- ---- what a try of a task may push

-- the compact JSON text of a pushed value has at most this many bytes
abbrev pub longest_text : ℕ
longest_text = 65_536

abbrev pub most_items : ℕ
most_items = 1_024

abbrev pub is_short_value_in : Option Xval → Bool
is_short_value_in None = true
is_short_value_in (Some value) = nat_le (length (json_of value)) longest_text

abbrev pub is_list_of_items_in : Option Xval → Bool
is_list_of_items_in (Some (ListOf values)) = nat_le (length (xvals_of values)) most_items
is_list_of_items_in _ = false

abbrev pub is_source : Option ℕ → ℕ → Bool
is_source None task = false
is_source (Some source) task = source == task

-- an unmapped task that some task is expanded over
abbrev pub gives_items_in : Dag → ℕ → Bool
gives_items_in dag task =
    not (is_some (task_of dag task).expand)
    && list_any (λ other. is_source other.expand task) dag.tasks

-- its text is short; of a branch it names direct downstreams; of a task that gives items it is a list of few
abbrev pub may_push_in : Dag → ℕ → Option Xval → Bool
may_push_in dag task value =
    is_short_value_in value
    && ((not (is_branch_in (task_of dag task)) || names_downstreams_in (shape_of dag) task value)
    && (not (gives_items_in dag task) || is_list_of_items_in value))

-- ---- grades

abbrev pub grade_value : Dag → ℕ → Option Xval → Outcome
grade_value dag task value =
    if may_push_in dag task value then Outcome.Success value else Outcome.Failed

abbrev pub grade_line_of : Dag → ℕ → List ℕ → Outcome
grade_line_of dag task line =
    if is_utf8 line then grade_value dag task (value_of_line line) else Outcome.Failed

abbrev pub is_status : ℕ → ℤ → Bool
is_status status (pos number) = number == status
is_status status (negsuc number) = false

-- by status 99 a try says that it is skipped (as Airflow's BashOperator does)
abbrev pub grade_status : Dag → ℕ → ℤ → List ℕ → Outcome
grade_status dag task status line =
    if is_status 99 status then Outcome.Skipped
    else (if is_status 0 status then grade_line_of dag task line
    else Outcome.Failed)

abbrev pub grade_answer : Dag → ℕ → Exit → Line → Outcome
grade_answer dag task (Exit.Code status) (Line.Bytes line) = grade_status dag task status line
grade_answer dag task _ _ = Outcome.Failed

-- the outcome of a raw answer: a program that did not start, was ended by a signal or whose output could not be had has failed; status 99 is
-- skipped, with its line unread; another status than 0 has failed; and a success pushes the value of its line, where the task may push it
unfoldable pub grade_of : Dag → ℕ → Raw → Outcome
grade_of dag task raw = grade_answer dag task raw.exit raw.line

-- ---- outcomes that a grade could give

-- the pushed value is one that the program can hold: its numbers fit 64 bits, and its texts are UTF-8
abbrev pub HasSoundValue : Outcome → Type 0
HasSoundValue (Outcome.Success (Some value)) = IsSound (plain_of value)
HasSoundValue _ = Unit {0}

-- a line may have this value: never null, with lists that are not nested too deep
abbrev pub is_readable_from_line_in : Option Xval → Bool
is_readable_from_line_in (Some Nil) = false
is_readable_from_line_in (Some (ListOf values)) = nat_le (plains_depth values) deepest
is_readable_from_line_in _ = true

unfoldable pub fits_in : Dag → ℕ → Outcome → Bool
fits_in dag task (Outcome.Success value) = is_readable_from_line_in value && may_push_in dag task value
fits_in dag task Outcome.Failed = true
fits_in dag task Outcome.Skipped = true

-- wherever the outcome fits, it is the grade of the answer
abbrev pub GradesTo : Raw → Outcome → Type 0
GradesTo raw outcome =
    (dag : Dag) (task : ℕ) → fits_in dag task outcome ≡ true → grade_of dag task raw ≡ outcome
