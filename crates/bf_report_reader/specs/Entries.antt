-- What the lines of tasks say, behind the id.
use Rattle.std.specs.Prelude.{◌≡◌, ℕ, ◌≤◌, length, Some, None, IsUtf8}
use Rattle.bf_value.specs.Json.{json_of, value_of_line}
use Rattle.bf_value.specs.declared.xval.Xval.{Xval}
use Rattle.bf_xcom.specs.declared.values.Outcome.{Outcome}
use Rattle.bf_xcom.specs.declared.values.Outcome.TheVariants.{Success, Failed, Skipped}
use Rattle.bf_xcom.specs.declared.values.TaskResult.{TaskResult}

-- a value is what a line of its own text pushes: it isn't null, and its lists are at most 64 deep
pub record IsShownValue (value : Xval) : Type 0 where
  pub utf8 : IsUtf8 (json_of value)
  pub pushed : value_of_line (json_of value) ≡ Some value
  pub short : length (json_of value) ≤ 65_536

abbrev pub IsShownOutcome : Outcome → Type 0
IsShownOutcome (Success None) = Unit {0}
IsShownOutcome (Success (Some value)) = IsShownValue value
IsShownOutcome Failed = Unit {0}
IsShownOutcome Skipped = Unit {0}

abbrev pub IsTries : ℕ → Type 0
IsTries tries = (1 ≤ tries) × (tries ≤ 101)

-- an instance with at least one try
pub record IsShownResult (result : TaskResult) : Type 0 where
  pub tries : IsTries result.tries
  pub outcome : IsShownOutcome result.outcome
