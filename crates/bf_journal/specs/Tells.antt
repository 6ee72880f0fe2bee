-- What the lines of a journal tell.
use Rattle.std.specs.Prelude.{◌≡◌, ◌<◌, ℕ, IsUtf8, List, [], ◌∷◌, length, map, Option, Some, None, slice_get}
use Rattle.bf_value.specs.declared.name.JobName.{JobName}
use Rattle.bf_value.specs.declared.xval.Xval.{Xval}
use Rattle.bf_value.specs.Json.{value_of_text}
use Rattle.bf_plan.specs.declared.plan.Dag.{Dag}
use Rattle.bf_interval.specs.declared.interval.Interval.{Interval}
use Rattle.bf_try.specs.declared.ledger.Entry.{Entry}
use Rattle.bf_journal.specs.Lines.{whole_lines}
use Rattle.bf_journal.specs.Records.{IsName, record_in}

-- the value is the record of this try, whatever stands in its last place
pub record Tells (dag : Dag) (intervals : List Interval) (value : Xval) (name : JobName)
    (entry : Entry) : Type 0 where
  pub run : Interval
  pub is_run : slice_get intervals name.run ≡ Some run
  pub is_task : name.task < length dag.tasks
  pub is_name : IsName name
  pub stamp : Xval
  pub is : value ≡ record_in dag run name entry.given entry.outcome stamp

-- the text says a value, which is the record of this try
pub record TellsText (dag : Dag) (intervals : List Interval) (text : List ℕ) (name : JobName)
    (entry : Entry) : Type 0 where
  pub value : Xval
  pub says : value_of_text 127 text ≡ Some value
  pub tells : Tells dag intervals value name entry

-- the line is UTF-8, and as a text the record of this try
abbrev pub TellsLine : Dag → List Interval → List ℕ → JobName → Entry → Type 0
TellsLine dag intervals line name entry = IsUtf8 line × TellsText dag intervals line name entry

-- the line tells of no try
abbrev pub TellsNone : Dag → List Interval → List ℕ → Type 0
TellsNone dag intervals line =
    (try : JobName × Entry) → TellsLine dag intervals line try.0 try.1 → ⊥

-- what the whole lines of these bytes say, each
abbrev pub records_in : List ℕ → List (Option Xval)
records_in bytes = map (value_of_text 127) (whole_lines bytes)

-- each of these values is the record of one of these tries
abbrev pub TellAll : Dag → List Interval → List (Option Xval) → List (JobName × Entry) → Type 0
TellAll dag intervals [] [] = Unit {0}
TellAll dag intervals [] (try ∷ tries) = ⊥
TellAll dag intervals (value ∷ values) [] = ⊥
TellAll dag intervals (None ∷ values) (try ∷ tries) = ⊥
TellAll dag intervals (Some value ∷ values) (try ∷ tries) =
    Tells dag intervals value try.0 try.1 × TellAll dag intervals values tries
