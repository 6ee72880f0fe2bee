-- Why a try failed: the line of grading that its raw answer came to.
use Rattle.std.specs.Prelude.{ℕ, ℤ, not, ◌&&◌, if◌then◌else◌, List, [], ◌++◌, codes, Option, None, Some, find}
use Rattle.std.specs.Fmt.{signed_decimal}
use Rattle.std.specs.Str.{is_utf8}
use Rattle.bf_value.specs.Json.{json_of, value_of_line}
use Rattle.bf_value.specs.declared.xval.Xval.{Xval}
use Rattle.bf_rule.specs.Branches.{names_downstreams_in}
use Rattle.bf_plan.specs.Plans.{task_of, shape_of, is_branch_in}
use Rattle.bf_plan.specs.declared.plan.Task.{Task}
use Rattle.bf_plan.specs.declared.plan.Dag.{Dag}
use Rattle.bf_try.specs.declared.answers.Exit.{Exit}
use Rattle.bf_try.specs.declared.answers.Line.{Line}
use Rattle.bf_try.specs.declared.answers.Raw.{Raw}
use Rattle.bf_try.specs.Grades.{gives_items_in, is_list_of_items_in, is_short_value_in, is_source, is_status}
use Rattle.bf_failure.specs.declared.failure.Failure.{Failure}
use Rattle.bf_failure.specs.declared.failure.Failure.TheVariants.{Status, Signal, NotStarted, TooMuchOutput, UnreadOutput, NotUtf8, LongValue, NoDownstream, NoItems}
use Rattle.bf_failure.specs.declared.detail.Detail.{Detail}
use Rattle.bf_failure.specs.declared.detail.Detail.TheVariants as detail

-- ---- which line of grading

-- the first task that is expanded over this one
abbrev pub first_expanded : Dag → ℕ → Option Task
first_expanded dag task = find (λ other. is_source other.expand task) dag.tasks

abbrev pub id_in : Option Task → List ℕ
id_in None = []
id_in (Some task) = task.id

abbrev pub text_in : Option Xval → List ℕ
text_in None = []
text_in (Some value) = json_of value

-- why a task may not push this; none where it may
abbrev pub value_failure : Dag → ℕ → Option Xval → Option Failure
value_failure dag task value =
    if not (is_short_value_in value) then Some LongValue
    else (if is_branch_in (task_of dag task) && not (names_downstreams_in (shape_of dag) task value)
    then Some (NoDownstream (text_in value))
    else (if gives_items_in dag task && not (is_list_of_items_in value)
    then Some (NoItems (id_in (first_expanded dag task)))
    else None))

abbrev pub line_failure : Dag → ℕ → List ℕ → Option Failure
line_failure dag task line =
    if is_utf8 line then value_failure dag task (value_of_line line) else Some NotUtf8

abbrev pub status_failure : Dag → ℕ → ℤ → List ℕ → Option Failure
status_failure dag task status line =
    if is_status 99 status then None
    else (if is_status 0 status then line_failure dag task line
    else Some (Status status))

abbrev pub answer_failure : Dag → ℕ → Exit → Line → Option Failure
answer_failure dag task exit Line.TooMuch = Some TooMuchOutput
answer_failure dag task exit Line.ReadFault = Some UnreadOutput
answer_failure dag task Exit.Signal (Line.Bytes line) = Some (Signal None)
answer_failure dag task Exit.NotStarted (Line.Bytes line) = Some (NotStarted None)
answer_failure dag task (Exit.Code status) (Line.Bytes line) = status_failure dag task status line

-- why a raw answer is graded as failed, and none where it is not. An output that could not be had comes before the exit, since a
-- program whose output is read no further is ended by a signal for it
unfoldable pub failure_of : Dag → ℕ → Raw → Option Failure
failure_of dag task raw = answer_failure dag task raw.exit raw.line

-- the same failure, with what is known beside the raw answer
abbrev pub detailed : Failure → Option Detail → Failure
detailed (Signal None) (Some (detail.Signal number)) = Signal (Some number)
detailed (NotStarted None) (Some (detail.NotStarted words)) = NotStarted (Some words)
detailed failure _ = failure

-- ---- its words

abbrev pub failure_text : Failure → List ℕ
failure_text (Status status) = codes "exit status " ++ signed_decimal status
failure_text (Signal None) = codes "killed by a signal"
failure_text (Signal (Some number)) = codes "killed by signal " ++ signed_decimal number
failure_text (NotStarted None) = codes "not started"
failure_text (NotStarted (Some words)) = codes "not started: " ++ words
failure_text TooMuchOutput = codes "more than 1048576 bytes of output"
failure_text UnreadOutput = codes "its output couldn't be read"
failure_text NotUtf8 = codes "its last line isn't UTF-8"
failure_text LongValue = codes "a value of more than 65536 bytes"
failure_text (NoDownstream value) = codes "a branch that names no direct downstream: " ++ value
failure_text (NoItems id) =
    codes "no list of at most 1024 items, which " ++ (id ++ codes " expands")
