-- Just what is graded as failed has a failure.
use Rattle.std.proofs.Common.{◌≡◌, ◌↔◌, ℕ, ℤ, Bool, true, false, not, ◌&&◌, ◌||◌, List, Option, None, Some, IsSome, if◌then◌else◌, refl}
use Rattle.std.specs.Str.{is_utf8}
use Rattle.bf_value.specs.Json.{value_of_line}
use Rattle.bf_value.specs.declared.xval.Xval.{Xval}
use Rattle.bf_rule.specs.Branches.{names_downstreams_in}
use Rattle.bf_plan.specs.Plans.{task_of, shape_of, is_branch_in}
use Rattle.bf_plan.specs.declared.plan.Dag.{Dag}
use Rattle.bf_xcom.specs.declared.values.Outcome.{Outcome}
use Rattle.bf_try.specs.declared.answers.Exit.{Exit}
use Rattle.bf_try.specs.declared.answers.Line.{Line}
use Rattle.bf_try.specs.declared.answers.Raw.{Raw}
use Rattle.bf_try.specs.Grades.{gives_items_in, grade_answer, grade_line_of, grade_of, grade_status, grade_value, is_list_of_items_in, is_short_value_in, is_status}
use Rattle.bf_failure.specs.declared.failure.Failure.{Failure}
use Rattle.bf_failure.specs.declared.failure.Failure.TheVariants.{Status, Signal, NotStarted, TooMuchOutput, UnreadOutput, NotUtf8, LongValue, NoDownstream, NoItems}
use Rattle.bf_failure.specs.Failures.{answer_failure, failure_of, first_expanded, id_in, line_failure, status_failure, text_in, value_failure}

abbrev Agree : Option Failure → Outcome → Type 0
Agree failure outcome = IsSome failure ↔ (outcome ≡ Outcome.Failed)

failed : (failure : Failure) → Agree (Some failure) Outcome.Failed
failed failure = (λ is. refl, λ is. refl)

succeeded : (value : Option Xval) → Agree None (Outcome.Success value)
succeeded value = (λ is. cc, λ is. cc)

skipped : Agree None Outcome.Skipped
skipped = (λ is. cc, λ is. cc)

value_agrees : (dag : Dag) (task : ℕ) (value : Option Xval) → Agree (value_failure dag task value) (grade_value dag task value)
value_agrees dag task value = by (is_short_value_in value) (is_branch_in (task_of dag task)) (names_downstreams_in (shape_of dag) task value) (gives_items_in dag task) (is_list_of_items_in value)
  where
    by : (short branch names gives items : Bool) → Agree
        (if not short then Some LongValue else (if branch && not names then Some (NoDownstream (text_in value)) else (if gives && not items then Some (NoItems (id_in (first_expanded dag task))) else None)))
        (if short && ((not branch || names) && (not gives || items)) then Outcome.Success value else Outcome.Failed)
    by false branch names gives items = failed LongValue
    by true true false gives items = failed (NoDownstream (text_in value))
    by true true true true false = failed (NoItems (id_in (first_expanded dag task)))
    by true true true true true = succeeded value
    by true true true false items = succeeded value
    by true false names true false = failed (NoItems (id_in (first_expanded dag task)))
    by true false names true true = succeeded value
    by true false names false items = succeeded value

line_agrees : (dag : Dag) (task : ℕ) (line : List ℕ) → Agree (line_failure dag task line) (grade_line_of dag task line)
line_agrees dag task line = by (is_utf8 line)
  where
    by : (text : Bool) → Agree (if text then value_failure dag task (value_of_line line) else Some NotUtf8) (if text then grade_value dag task (value_of_line line) else Outcome.Failed)
    by true = value_agrees dag task (value_of_line line)
    by false = failed NotUtf8

status_agrees : (dag : Dag) (task : ℕ) (status : ℤ) (line : List ℕ) → Agree (status_failure dag task status line) (grade_status dag task status line)
status_agrees dag task status line = by (is_status 99 status) (is_status 0 status)
  where
    by : (skips succeeds : Bool) → Agree (if skips then None else (if succeeds then line_failure dag task line else Some (Status status)))
        (if skips then Outcome.Skipped else (if succeeds then grade_line_of dag task line else Outcome.Failed))
    by true succeeds = skipped
    by false true = line_agrees dag task line
    by false false = failed (Status status)

answer_agrees : (dag : Dag) (task : ℕ) (exit : Exit) (line : Line) → Agree (answer_failure dag task exit line) (grade_answer dag task exit line)
answer_agrees dag task (Exit.Code status) (Line.Bytes line) = status_agrees dag task status line
answer_agrees dag task (Exit.Code status) Line.TooMuch = failed TooMuchOutput
answer_agrees dag task (Exit.Code status) Line.ReadFault = failed UnreadOutput
answer_agrees dag task Exit.Signal (Line.Bytes line) = failed (Signal None)
answer_agrees dag task Exit.Signal Line.TooMuch = failed TooMuchOutput
answer_agrees dag task Exit.Signal Line.ReadFault = failed UnreadOutput
answer_agrees dag task Exit.NotStarted (Line.Bytes line) = failed (NotStarted None)
answer_agrees dag task Exit.NotStarted Line.TooMuch = failed TooMuchOutput
answer_agrees dag task Exit.NotStarted Line.ReadFault = failed UnreadOutput

pub failures_agree : (dag : Dag) (task : ℕ) (raw : Raw) → IsSome (failure_of dag task raw) ↔ (grade_of dag task raw ≡ Outcome.Failed)
unfolding failure_of grade_of
failures_agree dag task raw = answer_agrees dag task raw.exit raw.line
