-- What the fields of a record tell.
use Rattle.std.specs.Prelude.{◌≡◌, ℕ, ℤ, pos, List, map, position, Option, Some, None, slice_get}
use Rattle.std.specs.Str.{bytes_eq}
use Rattle.bf_value.specs.declared.name.JobName.{JobName}
use Rattle.bf_value.specs.declared.xval.Xval.{Xval}
use Rattle.bf_value.specs.declared.xval.Xval.TheVariants.{Int, Text}
use Rattle.bf_value.specs.Views.{list_of}
use Rattle.bf_plan.specs.declared.plan.Dag.{Dag}
use Rattle.bf_plan.specs.Plans.{shape_of}
use Rattle.bf_xcom.specs.declared.values.Outcome.{Outcome}
use Rattle.bf_xcom.specs.Pulls.{pushed_by}
use Rattle.bf_interval.specs.declared.interval.Interval.{Interval}
use Rattle.bf_moment.specs.Moment.{moment_text}
use Rattle.bf_try.specs.declared.ledger.Entry.{Entry}
use Rattle.bf_journal.specs.Records.{IsName, optional_value_of, outcome_word}

-- what is found is such a thing, and where nothing is found there is none
abbrev pub IsFound : {X : Type 0} → (X → Type 0) → Option X → Type 0
IsFound {X} IsSuch None = (thing : X) → IsSuch thing → ⊥
IsFound IsSuch (Some thing) = IsSuch thing

-- ---- the fields of a record

-- there is such a run, and the text is that of its start
abbrev pub StartsAt : Option Interval → List ℕ → Type 0
StartsAt None text = ⊥
StartsAt (Some run) text = text ≡ moment_text run.start.nanosecond

-- there is such a run, and it starts at the moment
abbrev pub StartsOn : Option Interval → ℤ → Type 0
StartsOn None moment = ⊥
StartsOn (Some run) moment = run.start.nanosecond ≡ moment

-- the first four fields are of this name
pub record TellsName (dag : Dag) (intervals : List Interval) (fields : List Xval)
    (name : JobName) : Type 0 where
  pub run : List ℕ
  pub task : List ℕ
  pub starts : StartsAt (slice_get intervals name.run) run
  pub is_task : position (bytes_eq task) (shape_of dag).ids ≡ Some name.task
  pub is_name : IsName name
  pub run_is : slice_get fields 0 ≡ Some (Text run)
  pub task_is : slice_get fields 1 ≡ Some (Text task)
  pub index_is : slice_get fields 2 ≡ Some (Int name.index)
  pub attempt_is : slice_get fields 3 ≡ Some (Int (pos name.attempt))

-- the next two are of this outcome
pub record TellsOutcome (fields : List Xval) (outcome : Outcome) : Type 0 where
  pub word_is : slice_get fields 4 ≡ Some (Text (outcome_word outcome))
  pub pushed_is : slice_get fields 5 ≡ Some (optional_value_of (pushed_by outcome))

-- and the next two of what was given
pub record TellsEntry (fields : List Xval) (entry : Entry) : Type 0 where
  pub outcome : TellsOutcome fields entry.outcome
  pub item_is : slice_get fields 6 ≡ Some (optional_value_of entry.given.item)
  pub pulled_is : slice_get fields 7 ≡ Some (list_of (map optional_value_of entry.given.pulled))
