-- Tries as records of a journal.
use Rattle.std.specs.Prelude.{◌≡◌, ◌<◌, ◌≤◌, ◌^◌, ℕ, ℤ, pos, negsuc, ◌+ℤ◌, FitsSigned, List, [], ◌∷◌, ◌++◌, length, Option, Some, None, codes, map, slice_get}
use Rattle.std.specs.Int.{w32}
use Rattle.bf_value.specs.declared.name.JobName.{JobName}
use Rattle.bf_value.specs.declared.xval.Xval.{Xval}
use Rattle.bf_value.specs.declared.xval.Xval.TheVariants.{Int, Text}
use Rattle.bf_value.specs.Plain.{IsSound, plain_depth}
use Rattle.bf_value.specs.Views.{list_of, plain_of}
use Rattle.bf_value.specs.Json.{json_of}
use Rattle.bf_plan.specs.declared.plan.Dag.{Dag}
use Rattle.bf_plan.specs.Plans.{task_of}
use Rattle.bf_interval.specs.declared.interval.Interval.{Interval}
use Rattle.bf_moment.specs.Moment.{moment_text}
use Rattle.bf_xcom.specs.declared.values.Given.{Given}
use Rattle.bf_xcom.specs.declared.values.Outcome.{Outcome}
use Rattle.bf_xcom.specs.declared.values.Outcome.TheVariants.{Success, Failed, Skipped}
use Rattle.bf_xcom.specs.Pulls.{pushed_by}
use Rattle.bf_try.specs.Asked.{Answered}
use Rattle.bf_try.specs.declared.answers.Exit.{Exit}
use Rattle.bf_try.specs.declared.answers.Exit.TheVariants.{Code, Signal, NotStarted}
use Rattle.bf_journal.specs.declared.stamp.Stamp.{Stamp}

-- numbers fit 64 bits, texts are UTF-8, and lists nest no deeper than JSON is read
pub record IsTellable (value : Xval) : Type 0 where
  pub sound : IsSound (plain_of value)
  pub shallow : plain_depth (plain_of value) ≤ 127

-- a list of the value, or of none
abbrev pub optional_value_of : Option Xval → Xval
optional_value_of None = list_of []
optional_value_of (Some value) = list_of (value ∷ [])

-- how a try ended
abbrev pub outcome_word : Outcome → List ℕ
outcome_word (Success value) = codes "success"
outcome_word Failed = codes "failed"
outcome_word Skipped = codes "skipped"

-- the status that a shell shows: 128 and the number of a signal, where that is known, and -1 where nothing was started
abbrev pub exit_code : Exit → Option ℤ → ℤ
exit_code (Code code) signal = code
exit_code Signal (Some number) = pos 128 +ℤ number
exit_code Signal None = pos 128
exit_code NotStarted signal = negsuc 0

-- when a try started, when it ended, and by which code
abbrev pub stamp_value : Stamp → Exit → Xval
stamp_value stamp exit =
    list_of (Int stamp.start ∷ Int stamp.end ∷ Int (exit_code exit stamp.signal) ∷ [])

-- the run, the task, the map index, the number of the try, how it ended, what it pushed, its item, what it pulled, and a stamp
abbrev pub record_value : List ℕ → List ℕ → JobName → Given → Outcome → Xval → Xval
record_value run task n given outcome stamp =
    list_of (Text run ∷ Text task ∷ Int n.index ∷ Int (pos n.attempt) ∷ Text (outcome_word outcome)
    ∷ optional_value_of (pushed_by outcome) ∷ optional_value_of given.item
    ∷ list_of (map optional_value_of given.pulled) ∷ stamp ∷ [])

-- the record of a try in the run of this data interval
abbrev pub record_in : Dag → Interval → JobName → Given → Outcome → Xval → Xval
record_in dag run n given outcome stamp =
    record_value (moment_text run.start.nanosecond) (task_of dag n.task).id n given outcome stamp

-- the record of an answered try that ended so
abbrev pub record_at : Dag → Interval → Answered → Outcome → Stamp → Xval
record_at dag run done outcome stamp =
    record_in dag run done.name done.given outcome (stamp_value stamp done.raw.exit)

-- a map index and a number of 32 bits
abbrev pub IsName : JobName → Type 0
IsName n = FitsSigned w32 n.index × (n.attempt < 2 ^ 32)

-- a value as a line, where it can be told
pub record IsLineOf (value : Xval) (line : List ℕ) : Type 0 where
  pub tellable : IsTellable value
  pub is : line ≡ json_of value ++ 10 ∷ []

-- the line is the record of an answered try that ended so, of a task and a run that are there
pub record IsRecord (dag : Dag) (intervals : List Interval) (done : Answered) (outcome : Outcome)
    (stamp : Stamp) (line : List ℕ) : Type 0 where
  pub run : Interval
  pub is_run : slice_get intervals done.name.run ≡ Some run
  pub is_task : done.name.task < length dag.tasks
  pub is_name : IsName done.name
  pub told : IsLineOf (record_at dag run done outcome stamp) line

-- there is no such task or run, or lists nest too deep for a record to be read back
abbrev pub HasNoRecord : Dag → List Interval → Answered → Outcome → Stamp → Type 0
HasNoRecord dag intervals done outcome stamp =
    (run : Interval) → slice_get intervals done.name.run ≡ Some run
    → done.name.task < length dag.tasks
    → ¬ (plain_depth (plain_of (record_at dag run done outcome stamp)) ≤ 127)
