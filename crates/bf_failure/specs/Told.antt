-- What is told of failed tries.
use Rattle.std.specs.Prelude.{◌≡◌, ℕ, List, [], ◌++◌, codes, Option, None, Some, IfSome}
use Rattle.bf_value.specs.declared.name.JobName.{JobName}
use Rattle.bf_quoted.specs.Values.{shown}
use Rattle.bf_plan.specs.declared.plan.Dag.{Dag}
use Rattle.bf_interval.specs.declared.interval.Interval.{Interval}
use Rattle.bf_words.specs.declared.context.JobContext.{JobContext}
use Rattle.bf_xcom.specs.declared.values.Given.{Given}
use Rattle.bf_try.specs.Asked.{Answered}
use Rattle.bf_try.specs.declared.answers.Raw.{Raw}
use Rattle.bf_failure.specs.declared.detail.Detail.{Detail}
use Rattle.bf_failure.specs.declared.failure.Failure.{Failure}
use Rattle.bf_failure.specs.declared.failure.Failure.TheVariants.{Status, Signal, NotStarted}
use Rattle.bf_failure.specs.Failures.{detailed, failure_of, failure_text}
use Rattle.bf_failure.specs.Tried.{IsContextOf, log_of, try_text_of}

-- the log that tells more: standard error of how a program ended, standard output of what it printed
abbrev pub log_ending_of : Failure → List ℕ
log_ending_of (Status status) = codes ".err"
log_ending_of (Signal number) = codes ".err"
log_ending_of (NotStarted words) = codes ".err"
log_ending_of _ = codes ".out"

abbrev pub log_hint_text_of : Option (List ℕ) → JobContext → Failure → List ℕ
log_hint_text_of None try failure = []
log_hint_text_of (Some folder) try failure = codes ", see " ++ log_of folder try (log_ending_of failure)

-- as `failed: load 2024-02-14T00:00:00Z index 2 try 1: exit status 3, see PATH`
abbrev pub told_failure_of : Option (List ℕ) → JobContext → Failure → List ℕ
told_failure_of logs try failure =
    codes "failed: " ++ (try_text_of try
    ++ (codes ": " ++ (failure_text failure ++ log_hint_text_of logs try failure)))

-- the same so that a terminal shows each character as itself, and a line feed
abbrev pub failed_line_of : Option (List ℕ) → JobContext → Failure → List ℕ
failed_line_of logs try failure = shown (told_failure_of logs try failure) ++ codes "\n"

-- the line of a failed try, as it may be answered, with what may be known of it
pub record IsToldLine (may_answer : JobName → Given → Raw → Type 0)
    (may_know : JobName → Given → Raw → Option Detail → Type 0) (dag : Dag) (intervals : List Interval) (logs : Option (List ℕ))
    (line : List ℕ) : Type 0 where
  pub done : Answered
  pub detail : Option Detail
  pub failure : Failure
  pub context : JobContext
  pub may : may_answer done.name done.given done.raw
  pub knows : may_know done.name done.given done.raw detail
  pub failed : failure_of dag done.name.task done.raw ≡ Some failure
  pub is_context : IsContextOf dag intervals done.name context
  pub is_line : line ≡ failed_line_of logs context (detailed failure detail)

-- the lines of tries that the runner may answer, with what it may know of them, may be told
abbrev pub MayTellOf : (List ℕ → Type 0) → (JobName → Given → Raw → Type 0)
    → (JobName → Given → Raw → Option Detail → Type 0) → Dag → List Interval → Option (List ℕ)
    → Type 0
MayTellOf may_tell may_answer may_know dag intervals logs =
    (line : List ℕ) → IsToldLine may_answer may_know dag intervals logs line → may_tell line

-- a line may be told to this one, or there is nobody to tell
abbrev pub may_tell_to : {T : Type 0} → (T → List ℕ → Type 0) → Option T → List ℕ → Type 0
may_tell_to may_tell teller line = IfSome teller (λ t. may_tell t line)

-- what contracts see of a runner that tells: the runner that it hands on to, what takes its lines, if anything does, of what backfill it
-- is, and the folder of the logs
pub record TellingOf (R T : Type 0) : Type 0 where
  pub runner : R
  pub teller : Option T
  pub dag : Dag
  pub intervals : List Interval
  pub logs : Option (List ℕ)
