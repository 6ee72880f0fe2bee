-- What the lines behind that of an instance tell of what its tries were given.
use Rattle.std.specs.Prelude.{◌≡◌, ◌≢◌, ℕ, ◌≤◌, true, length, Option, Some, None, IsUtf8}
use Rattle.bf_plan.specs.Ids.{is_id_in}
use Rattle.bf_value.specs.Json.{json_of, value_of_text}
use Rattle.bf_value.specs.declared.xval.Xval.{Xval}
use Rattle.bf_value.specs.declared.xval.Xval.TheVariants.{Nil}
use Rattle.bf_report.specs.declared.report.Pull.{Pull}

-- a value is what its own text says, its lists are at most so deep, and its text has at most so many bytes
pub record IsToldValue (deepest longest : ℕ) (value : Xval) : Type 0 where
  pub utf8 : IsUtf8 (json_of value)
  pub says : value_of_text deepest (json_of value) ≡ Some value
  pub short : length (json_of value) ≤ longest

-- an item is one of a pushed list, and may be null
abbrev pub IsToldItem : Xval → Type 0
IsToldItem item = IsToldValue 64 65_536 item

-- what is pulled isn't null: a pushed value, or the list of those that an expanded task's instances pushed
abbrev pub IsToldPulled : Option Xval → Type 0
IsToldPulled None = Unit {0}
IsToldPulled (Some value) = IsToldValue 65 67_109_889 value × (value ≢ Nil)

abbrev pub IsToldPull : Pull → Type 0
IsToldPull pull = (is_id_in pull.task ≡ true) × IsToldPulled pull.value
