-- Journals that were written by backfills, cut short, and gone on with.
use Rattle.std.specs.Prelude.{◌≡◌, ℕ, suc, ◌≤◌, ◌<◌, List, length, take, map, All, Some}
use Rattle.bf_value.specs.declared.name.JobName.{JobName}
use Rattle.bf_value.specs.declared.xval.Xval.{Xval}
use Rattle.bf_value.specs.Json.{json_of}
use Rattle.bf_plan.specs.declared.plan.Dag.{Dag}
use Rattle.bf_interval.specs.declared.interval.Interval.{Interval}
use Rattle.bf_xcom.specs.declared.values.Given.{Given}
use Rattle.bf_try.specs.declared.answers.Raw.{Raw}
use Rattle.bf_try.specs.declared.ledger.Entry.{Entry}
use Rattle.bf_kept.specs.Kept.{HasGrade}
use Rattle.bf_journal.specs.Lines.{text_of_lines}
use Rattle.bf_journal.specs.Records.{IsTellable}
use Rattle.bf_journal.specs.Tells.{records_in, Tells, TellAll}
use Rattle.bf_journal.specs.Found.{last_for}

-- records as text, a line each
abbrev pub text_of_records : List Xval → List ℕ
text_of_records records = text_of_lines (map json_of records)

-- of the first n bytes of the text of records just those are read that stand there whole: each of them does, and the next doesn't
pub record ReadsWholeOnes (records : List Xval) (n : ℕ) : Type 0 where
  pub count : ℕ
  pub few : count ≤ length records
  pub read : records_in (take n (text_of_records records)) ≡ map Some (take count records)
  pub each : length (text_of_records (take count records)) ≤ n
  pub none_more : count < length records → n < length (text_of_records (take (suc count) records))

-- the outcome of the try is the grade of an answer that may be given to it
abbrev pub IsGradedTry : (JobName → Given → Raw → Type 0) → Dag → JobName × Entry → Type 0
IsGradedTry may_answer dag try = HasGrade may_answer dag try.0 try.1

-- the value is the record of such a try
pub record IsGradedRecord (may_answer : JobName → Given → Raw
    → Type 0) (dag : Dag) (intervals : List Interval) (value : Xval) : Type 0 where
  pub name : JobName
  pub entry : Entry
  pub tells : Tells dag intervals value name entry
  pub graded : IsGradedTry may_answer dag (name, entry)

-- what crashes leave behind the head of a journal: the first bytes of the records of such tries
pub record IsCutJournal (may_answer : JobName → Given → Raw
    → Type 0) (dag : Dag) (intervals : List Interval) (bytes : List ℕ) : Type 0 where
  pub records : List Xval
  pub tellable : All IsTellable records
  pub graded : All (IsGradedRecord may_answer dag intervals) records
  pub cut : ℕ
  pub is : bytes ≡ take cut (text_of_records records)

-- the whole lines of these bytes tell of tries
pub record AreAllTold (dag : Dag) (intervals : List Interval) (bytes : List ℕ) : Type 0 where
  pub tries : List (JobName × Entry)
  pub told : TellAll dag intervals (records_in bytes) tries

-- whatever is kept of these bytes, each kept try has the grade of an answer that may be given to it
abbrev pub KeepsGraded : (JobName → Given → Raw → Type 0) → Dag → List Interval → List ℕ → Type 0
KeepsGraded may_answer dag intervals bytes =
    (tries : List (JobName × Entry)) → TellAll dag intervals (records_in bytes) tries
    → (n : JobName) (e : Entry) → last_for dag tries n ≡ Some e → IsGradedTry may_answer dag (n, e)
