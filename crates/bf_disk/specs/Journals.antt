-- What is given of a journal that is opened.
use Rattle.std.specs.Prelude.{◌≡◌, ℕ, List, Option, Some, None, Result, Ok, Err, ⊤}
use Rattle.bf_journal.specs.Found.{IsOfAnother}
use Rattle.bf_disk.specs.declared.journals.OpenFault.{OpenFault}
use Rattle.bf_disk.specs.declared.journals.OpenJournal.{OpenJournal}

-- memory is wanting, or the journal of these bytes has another head
abbrev pub IsUnopenedFor : List ℕ → List ℕ → OpenFault → Type 0
IsUnopenedFor head held OpenFault.OfAnother = IsOfAnother head held
IsUnopenedFor head held fault = fault ≡ OpenFault.OutOfMemory

-- of a journal that holds these bytes a device with them, unless it has another head than this; and none of one that can't be opened
abbrev pub OpensJournal : {D : Type 0} → List ℕ → Option (List ℕ)
    → Result (OpenJournal D) OpenFault → Type 0
OpensJournal head (Some held) (Ok opened) = opened.held.items ≡ held
OpensJournal head (Some held) (Err fault) = IsUnopenedFor head held fault
OpensJournal head None (Ok opened) = ⊥
OpensJournal head None (Err fault) = ⊤
