-- What stands in a journal, whatever crashes there were.
use Rattle.std.specs.Prelude.{◌≡◌, ◌⊎◌, ℕ, zero, suc, List, ◌++◌, take, Option, Some}
use Rattle.bf_value.specs.declared.name.JobName.{JobName}
use Rattle.bf_plan.specs.declared.plan.Dag.{Dag}
use Rattle.bf_interval.specs.declared.interval.Interval.{Interval}
use Rattle.bf_xcom.specs.declared.values.Given.{Given}
use Rattle.bf_try.specs.declared.answers.Raw.{Raw}
use Rattle.bf_try.specs.Tries.{Ledger}
use Rattle.bf_journal.specs.Cuts.{IsCutJournal}
use Rattle.bf_journal.specs.Found.{IsCutHead, IsGoneOnWith}

-- the bytes are the beginning of the head, or what crashes leave behind it of a backfill whose tries are answered so
abbrev pub IsLeftByCrashes : (JobName → Given → Raw → Type 0) → Dag → List Interval → List ℕ
    → List ℕ → Type 0
IsLeftByCrashes may_answer dag intervals head held =
    ((rest : List ℕ) × (head ≡ held ++ rest))
    ⊎ ((bytes : List ℕ) × (held ≡ head ++ bytes) × IsCutJournal may_answer dag intervals bytes)

-- where a device tells that a journal held this, which crashes may leave, it tells so of what the journal holds now
abbrev pub KeepsJournal : (JobName → Given → Raw → Type 0) → Dag → List Interval → List ℕ → List ℕ
    → Option (List ℕ) → Option (List ℕ) → Type 0
KeepsJournal may_answer dag intervals head held old new =
    old ≡ Some held → IsLeftByCrashes may_answer dag intervals head held → (left : List ℕ)
    × (new ≡ Some left) × IsLeftByCrashes may_answer dag intervals head left

-- ---- how a journal is gone on with

-- the bytes are those of a journal with this head, which may be cut short; so many of them are whole lines, which tell these tries
abbrev pub IsFoundIn : Dag → List Interval → List ℕ → List ℕ → ℕ → Ledger → Type 0
IsFoundIn dag intervals head held whole tries =
    IsCutHead head held whole tries ⊎ IsGoneOnWith dag intervals head held whole tries

-- what a journal that held this holds when so many bytes of it are whole: these, or the head where none is
abbrev pub made_whole : List ℕ → List ℕ → ℕ → List ℕ
made_whole head held zero = head
made_whole head held (suc whole) = take (suc whole) held

-- the first bytes of what it held, or of the head
pub record IsPart (head held left : List ℕ) : Type 0 where
  pub count : ℕ
  pub is : (left ≡ take count held) ⊎ (left ≡ take count head)

-- the device tells that there are left the first bytes of what it held, or of the head
abbrev pub IsLeftPart : List ℕ → List ℕ → Option (List ℕ) → Option (List ℕ) → Type 0
IsLeftPart head held old new =
    old ≡ Some held → (left : List ℕ) × (new ≡ Some left) × IsPart head held left

-- so many bytes were whole, which tell these tries, and the device tells that the others don't stand there any more
pub record IsMadeWhole (dag : Dag) (intervals : List Interval) (head held : List ℕ) (tries : Ledger)
    (old new : Option (List ℕ)) : Type 0 where
  pub whole : ℕ
  pub found : IsFoundIn dag intervals head held whole tries
  pub is : old ≡ Some held → new ≡ Some (made_whole head held whole)
