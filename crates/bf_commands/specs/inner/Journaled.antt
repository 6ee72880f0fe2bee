-- What is reported of a backfill that records its tries: it goes on from those of its journal, and else from those that were kept before.
use Rattle.std.specs.Prelude.{◌≡◌, ℕ, List, [], ◌∷◌, ◌++◌, Option, Some, None}
use Rattle.bf_value.specs.declared.name.JobName.{JobName}
use Rattle.bf_plan.specs.declared.plan.Dag.{Dag}
use Rattle.bf_interval.specs.declared.interval.Interval.{Interval}
use Rattle.bf_try.specs.Tries.{Ledger}
use Rattle.bf_core.specs.declared.fault.BackfillFault.{BackfillFault}
use Rattle.bf_journal.specs.declared.head.ClearedTask.{ClearedTask}
use Rattle.bf_journal.specs.Found.{IsFault}
use Rattle.bf_journal.specs.Heads.{head_text}
use Rattle.bf_journal.specs.declared.stop.Stop.{Stop}
use Rattle.bf_dependents.specs.declared.place.Place.{Place}
use Rattle.bf_command_fault.specs.declared.fault.CommandFault.{CommandFault}
use Rattle.bf_command_fault.specs.declared.fault.CommandFault.TheVariants.{Journal as BadJournal, OutOfMemory, Stopped}
use Rattle.bf_command_fault.specs.declared.stop.StopFault.{StopFault}
use Rattle.bf_planning.specs.Wanting.{IsWanting}
use Rattle.bf_commands.specs.inner.Programs.{IsGivenUp}
use Rattle.bf_commands.specs.Journaled.{Heading, IsToldOf, IsStopRecorded}

-- what is told of one place more, where its run is there
abbrev pub AddsTold : Dag → Option Interval → Place → Heading → Heading → Type 0
AddsTold dag None place before cleared = cleared ≡ before
AddsTold dag (Some interval) place before cleared =
    (more : ClearedTask) × IsToldOf dag interval place more × (cleared ≡ before ++ more ∷ [])

-- the journal is refused; or a write to it fails; or memory is wanting
abbrev pub IsFaultOfJournal : Dag → List Interval → Heading → List ℕ → CommandFault → Type 0
IsFaultOfJournal dag intervals cleared held (BadJournal fault) =
    IsFault dag intervals (head_text dag intervals cleared) held fault
IsFaultOfJournal dag intervals cleared held (Stopped StopFault.CannotRecord) = Unit {0}
IsFaultOfJournal dag intervals cleared held OutOfMemory = Unit {0}
IsFaultOfJournal dag intervals cleared held fault = ⊥

-- a backfill that records its tries stops; or memory or the device is wanting
abbrev pub IsStopRecordedOrWanting : Option ℕ → Ledger → Option (List ℕ) → Dag → List Interval
    → CommandFault → Type 0
IsStopRecordedOrWanting most kept logs dag intervals (Stopped stop) =
    IsStopRecorded most kept logs dag intervals stop
IsStopRecordedOrWanting most kept logs dag intervals fault = IsWanting fault

-- what is told of why no further try was begun, with how many tries may fail; nothing where none was held back
abbrev pub told_of_stop : Option Stop → Option ℕ → Option CommandFault
told_of_stop (Some Stop.WriteFailed) most = Some (Stopped StopFault.CannotRecord)
told_of_stop (Some Stop.OutOfMemory) most = Some OutOfMemory
told_of_stop (Some Stop.EnoughFailed) (Some most) = Some (Stopped (StopFault.EnoughFailed most))
told_of_stop stop most = None

-- what is told of a try that was given up while tries were recorded: why no further one was begun, or the try
abbrev pub IsToldAt : Option ℕ → Option (List ℕ) → Dag → List Interval → JobName → CommandFault
    → Type 0
IsToldAt most logs dag intervals name (Stopped StopFault.CannotRecord) = Unit {0}
IsToldAt most logs dag intervals name (Stopped (StopFault.EnoughFailed count)) = most ≡ Some count
IsToldAt most logs dag intervals name fault = IsGivenUp logs dag intervals name fault

-- what is told of what stopped a backfill that records its tries
abbrev pub IsToldOfRecorded : Option ℕ → Option (List ℕ) → Dag → List Interval → BackfillFault
    → CommandFault → Type 0
IsToldOfRecorded most logs dag intervals BackfillFault.OutOfMemory told = told ≡ OutOfMemory
IsToldOfRecorded most logs dag intervals BackfillFault.Start told =
    told ≡ Stopped StopFault.CannotStart
IsToldOfRecorded most logs dag intervals (BackfillFault.Runner name) told =
    IsToldAt most logs dag intervals name told
