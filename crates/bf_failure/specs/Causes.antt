-- What holds of an answer that failed so.
use Rattle.std.specs.Prelude.{◌≡◌, ◌≢◌, ◌<◌, ℕ, ℤ, pos, true, false, List, length, Option, Some, IsUtf8}
use Rattle.bf_value.specs.Json.{json_of, value_of_line}
use Rattle.bf_value.specs.declared.xval.Xval.{Xval}
use Rattle.bf_rule.specs.Branches.{names_downstreams_in}
use Rattle.bf_plan.specs.Plans.{task_of, shape_of, is_branch_in}
use Rattle.bf_plan.specs.declared.plan.Task.{Task}
use Rattle.bf_plan.specs.declared.plan.Dag.{Dag}
use Rattle.bf_try.specs.declared.answers.Exit.{Exit}
use Rattle.bf_try.specs.declared.answers.Line.{Line}
use Rattle.bf_try.specs.declared.answers.Raw.{Raw}
use Rattle.bf_try.specs.Grades.{is_list_of_items_in}
use Rattle.bf_failure.specs.declared.failure.Failure.{Failure}
use Rattle.bf_failure.specs.declared.failure.Failure.TheVariants.{Status, Signal, NotStarted, TooMuchOutput, UnreadOutput, NotUtf8, LongValue, NoDownstream, NoItems}
use Rattle.bf_failure.specs.Failures.{first_expanded}

-- a program that ended with this status behind this last line
abbrev pub ended : ℤ → List ℕ → Raw
ended status line = record { exit = Exit.Code status; line = Line.Bytes line }

-- it ended with status 0, and its last line pushes this
pub record Pushes (raw : Raw) (value : Option Xval) : Type 0 where
  pub line : List ℕ
  pub is_ended : raw ≡ ended (pos 0) line
  pub is_text : IsUtf8 line
  pub says : value_of_line line ≡ value

-- what the failure says of the answer is true
abbrev pub IsCause : Dag → ℕ → Raw → Failure → Type 0
IsCause dag task raw (Status status) =
    (line : List ℕ) × (raw ≡ ended status line) × (status ≢ pos 0) × (status ≢ pos 99)
IsCause dag task raw (Signal number) = raw.exit ≡ Exit.Signal
IsCause dag task raw (NotStarted words) = raw.exit ≡ Exit.NotStarted
IsCause dag task raw TooMuchOutput = raw.line ≡ Line.TooMuch
IsCause dag task raw UnreadOutput = raw.line ≡ Line.ReadFault
IsCause dag task raw NotUtf8 = (line : List ℕ) × (raw ≡ ended (pos 0) line) × ¬ (IsUtf8 line)
IsCause dag task raw LongValue =
    (value : Xval) × Pushes raw (Some value) × (65_536 < length (json_of value))
IsCause dag task raw (NoDownstream text) =
    (value : Xval) × Pushes raw (Some value) × (text ≡ json_of value)
    × (is_branch_in (task_of dag task) ≡ true)
    × (names_downstreams_in (shape_of dag) task (Some value) ≡ false)
IsCause dag task raw (NoItems id) =
    (value : Option Xval) × (first : Task) × Pushes raw value × (is_list_of_items_in value ≡ false)
    × (first_expanded dag task ≡ Some first) × (first.id ≡ id)
