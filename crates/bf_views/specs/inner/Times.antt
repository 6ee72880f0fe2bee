-- The times of the journal that a line names, and why there are none.
use Rattle.std.specs.Prelude.{ℕ, List, [], ◌∷◌, Option}
use Rattle.bf_plan.specs.declared.plan.Dag.{Dag}
use Rattle.bf_interval.specs.declared.interval.Interval.{Interval}
use Rattle.bf_command_fault.specs.declared.fault.CommandFault.{CommandFault}
use Rattle.bf_command_fault.specs.declared.fault.CommandFault.TheVariants.{CannotRead, Journal, OutOfMemory}
use Rattle.bf_disk.specs.Files.{AreReadable, Files, IsFirstUntold, IsHeld, IsHeldIfNamed, IsReadable, named_paths}
use Rattle.bf_times.specs.Times.{IsTimesFault}
use Rattle.bf_views.specs.Times.{IsJournalFault}

-- the journal at the path can't be read, or is none of the graph and the runs; or memory is wanting
abbrev pub IsJournalFaultAt : Files → List ℕ → Dag → List Interval → CommandFault → Type 0
IsJournalFaultAt files path dag intervals OutOfMemory = Unit {0}
IsJournalFaultAt files path dag intervals (CannotRead p) = IsFirstUntold files (path ∷ []) p
IsJournalFaultAt files path dag intervals (Journal fault) = IsReadable (files path)
    × ((held : List ℕ) → IsHeld (files path) held → IsTimesFault dag intervals held fault)
IsJournalFaultAt files path dag intervals _ = ⊥

-- the fault of the journal that is named, or it can't be read
abbrev pub IsNamedJournalFault : Files → Option (List ℕ) → Dag → List Interval → CommandFault
    → Type 0
IsNamedJournalFault files path dag intervals OutOfMemory = Unit {0}
IsNamedJournalFault files path dag intervals (CannotRead p) =
    IsFirstUntold files (named_paths path) p
IsNamedJournalFault files path dag intervals (Journal fault) = AreReadable files (named_paths path)
    × ((journal : Option (List ℕ)) → IsHeldIfNamed files path journal
    → IsJournalFault dag intervals journal (Journal fault))
IsNamedJournalFault files path dag intervals _ = ⊥
