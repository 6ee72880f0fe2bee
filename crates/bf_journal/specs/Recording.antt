-- What a recorder has written.
use Rattle.std.specs.Prelude.{◌≡◌, ℕ, ◌≤◌, Bool, false, true, List, length, take, Option, Some, None, All}
use Rattle.std.specs.List.{flat_map}
use Rattle.bf_device.specs.Device.{sent}
use Rattle.bf_value.specs.declared.name.JobName.{JobName}
use Rattle.bf_plan.specs.declared.plan.Dag.{Dag}
use Rattle.bf_interval.specs.declared.interval.Interval.{Interval}
use Rattle.bf_xcom.specs.declared.values.Given.{Given}
use Rattle.bf_try.specs.Asked.{Answered}
use Rattle.bf_try.specs.declared.answers.Raw.{Raw}
use Rattle.bf_try.specs.Grades.{grade_of}
use Rattle.bf_journal.specs.declared.stop.Stop.{Stop}
use Rattle.bf_journal.specs.declared.stop.Stop.TheVariants.{WriteFailed, OutOfMemory, EnoughFailed}
use Rattle.bf_journal.specs.declared.stamp.Stamp.{Stamp}
use Rattle.bf_journal.specs.Records.{IsRecord}

-- ---- a device

-- of a line so many bytes went out: all of it, or where that failed its first bytes
pub record GoesOut (line : List ℕ) (old new : Option (List ℕ)) (whole : Bool) : Type 0 where
  pub count : ℕ
  pub few : count ≤ length line
  pub out : new ≡ sent old (take count line)
  pub all : whole ≡ true → count ≡ length line

-- ---- a recorder

-- what contracts see of a recorder: the bytes that its device was given, where it tells them; whether a write has failed, and whether
-- memory was wanting for a record; how many tries have failed, and how many may
pub record Recorded : Type 0 where
  pub written : Option (List ℕ)
  pub write_failed : Bool
  pub memory_failed : Bool
  pub failed_tries : ℕ
  pub most_failed : Option ℕ

-- no try is begun since a write failed
abbrev pub is_write_failed : Option Stop → Bool
is_write_failed (Some WriteFailed) = true
is_write_failed (Some OutOfMemory) = false
is_write_failed (Some EnoughFailed) = false
is_write_failed None = false

-- texts behind each other
abbrev pub text_of_all : List (List ℕ) → List ℕ
text_of_all texts = flat_map (λ text. text) texts

-- behind these bytes records were written that may be: all that were handed over, or where a write has failed the first bytes of them
pub record IsWritten (may_record : List ℕ
    → Type 0) (base written : Option (List ℕ)) (failed : Bool) : Type 0 where
  pub records : List (List ℕ)
  pub may_be : All may_record records
  pub count : ℕ
  pub few : count ≤ length (text_of_all records)
  pub first : written ≡ sent base (take count (text_of_all records))
  pub all : failed ≡ false → count ≡ length (text_of_all records)

-- ---- a runner that records

-- the line is the record of a try whose outcome is the grade of an answer that may be given to it
pub record IsRecordBy (may_answer : JobName → Given → Raw
    → Type 0) (dag : Dag) (intervals : List Interval) (line : List ℕ) : Type 0 where
  pub done : Answered
  pub stamp : Stamp
  pub may : may_answer done.name done.given done.raw
  pub is : IsRecord dag intervals done (grade_of dag done.name.task done.raw) stamp line

-- the answers of a runner may be recorded
abbrev pub MayRecord : (List ℕ → Type 0) → (JobName → Given → Raw → Type 0) → Dag → List Interval
    → Type 0
MayRecord may_record may_answer dag intervals =
    (line : List ℕ) → IsRecordBy may_answer dag intervals line → may_record line

-- what contracts see of a runner that records: the runner that it hands on to, and of what backfill it is
pub record RecordingOf (R : Type 0) : Type 0 where
  pub runner : R
  pub dag : Dag
  pub intervals : List Interval
