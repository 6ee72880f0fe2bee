-- What is found of a journal.
use Rattle.std.specs.Prelude.{◌≡◌, ◌+◌, ◌++◌, ◌∷◌, ℕ, List, [], length, map, codes, decimal, if◌then◌else◌, Option, Some, None}
use Rattle.std.specs.Option.{option_or}
use Rattle.std.specs.Ordering.{eq_by_cmp}
use Rattle.bf_value.specs.declared.name.JobName.{JobName}
use Rattle.bf_value.specs.Json.{value_of_text}
use Rattle.bf_value.specs.Names.{name_cmp}
use Rattle.bf_plan.specs.declared.plan.Dag.{Dag}
use Rattle.bf_interval.specs.declared.interval.Interval.{Interval}
use Rattle.bf_try.specs.declared.ledger.Entry.{Entry}
use Rattle.bf_try.specs.Grades.{fits_in}
use Rattle.bf_try.specs.Tries.{Ledger}
use Rattle.bf_journal.specs.declared.fault.JournalFault.{JournalFault}
use Rattle.bf_journal.specs.declared.fault.JournalFault.TheVariants.{BadRecord, Mismatch, OutOfMemory}
use Rattle.bf_journal.specs.Lines.{text_of_lines, whole_lines}
use Rattle.bf_journal.specs.Tells.{records_in, TellAll, TellsNone}

-- ---- what is kept of tries

-- the entry of a try, where it has the name
abbrev pub entry_named : JobName × Entry → JobName → Option Entry
entry_named try n = if eq_by_cmp name_cmp n try.0 then Some try.1 else None

-- the entry of a try, where it has the name and its outcome fits the plan
abbrev pub entry_for : Dag → JobName × Entry → JobName → Option Entry
entry_for dag try n = if fits_in dag try.0.task try.1.outcome then entry_named try n else None

-- the entry of the last of these tries that has the name and fits
abbrev pub last_for : Dag → List (JobName × Entry) → Ledger
last_for dag [] n = None
last_for dag (try ∷ tries) n = option_or (last_for dag tries n) (entry_for dag try n)

-- ---- what is read

-- the whole lines tell these tries, and so many bytes stand behind them
pub record AreRead (dag : Dag) (intervals : List Interval) (bytes : List ℕ) (tries : List (JobName
    × Entry)) (torn : ℕ) : Type 0 where
  pub told : TellAll dag intervals (records_in bytes) tries
  pub rest : length bytes ≡ length (text_of_lines (whole_lines bytes)) + torn

-- the whole line of this number, the head being 1, is the first that tells of no try
pub record IsFirstBad (dag : Dag) (intervals : List Interval) (bytes : List ℕ)
    (number : ℕ) : Type 0 where
  pub before : List (List ℕ)
  pub line : List ℕ
  pub after : List (List ℕ)
  pub are : whole_lines bytes ≡ before ++ line ∷ after
  pub is_number : number ≡ length before + 2
  pub tries : List (JobName × Entry)
  pub told : TellAll dag intervals (map (value_of_text 127) before) tries
  pub none : TellsNone dag intervals line

-- ---- a journal

-- of a head that was cut short nothing counts, and nothing is kept
pub record IsCutHead (head bytes : List ℕ) (whole : ℕ) (kept : Ledger) : Type 0 where
  pub rest : List ℕ
  pub are : head ≡ bytes ++ rest
  pub nothing_whole : whole ≡ 0
  pub nothing_kept : (n : JobName) → kept n ≡ None

-- behind the head the whole lines tell tries, of which the last of each name that fits is kept; so many bytes are whole
pub record IsGoneOnWith (dag : Dag) (intervals : List Interval) (head bytes : List ℕ) (whole : ℕ)
    (kept : Ledger) : Type 0 where
  pub records : List ℕ
  pub are : bytes ≡ head ++ records
  pub whole_is : whole ≡ length head + length (text_of_lines (whole_lines records))
  pub tries : List (JobName × Entry)
  pub told : TellAll dag intervals (records_in records) tries
  pub last : (n : JobName) → kept n ≡ last_for dag tries n

-- neither begins with the other
pub record IsOfAnother (head bytes : List ℕ) : Type 0 where
  pub not_begun : (rest : List ℕ) → head ≡ bytes ++ rest → ⊥
  pub not_gone_on : (rest : List ℕ) → bytes ≡ head ++ rest → ⊥

-- the line of this number behind the head tells of no try
pub record HasBadRecord (dag : Dag) (intervals : List Interval) (head bytes : List ℕ)
    (number : ℕ) : Type 0 where
  pub records : List ℕ
  pub are : bytes ≡ head ++ records
  pub first : IsFirstBad dag intervals records number

-- why a journal is refused; want of memory says nothing of it
abbrev pub IsFault : Dag → List Interval → List ℕ → List ℕ → JournalFault → Type 0
IsFault dag intervals head bytes (BadRecord number) = HasBadRecord dag intervals head bytes number
IsFault dag intervals head bytes Mismatch = IsOfAnother head bytes
IsFault dag intervals head bytes OutOfMemory = Unit {0}

-- ---- refusals

-- the number of the refusal, which want of memory doesn't have
abbrev pub refusal_number_of : JournalFault → Option ℕ
refusal_number_of (BadRecord number) = Some 33
refusal_number_of Mismatch = Some 43
refusal_number_of OutOfMemory = None

-- why a journal is not read, as it is printed
abbrev pub fault_text : JournalFault → List ℕ
fault_text (BadRecord number) = codes "bad record: " ++ decimal number
fault_text Mismatch = codes "journal mismatch"
fault_text OutOfMemory = codes "out of memory"
