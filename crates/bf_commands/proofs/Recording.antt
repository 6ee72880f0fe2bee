-- Backfills that record their tries.
use Rattle.std.proofs.Common.{ℕ, Bool, List, Option, refl}
use Rattle.bf_value.specs.declared.name.JobName.{JobName}
use Rattle.bf_plan.specs.declared.plan.Dag.{Dag}
use Rattle.bf_interval.specs.declared.interval.Interval.{Interval}
use Rattle.bf_xcom.specs.declared.values.Given.{Given}
use Rattle.bf_try.specs.Tries.{Ledger}
use Rattle.bf_kept.specs.Kept.{IsNew, MayGiveUpAnew}
use Rattle.bf_core.specs.declared.fault.BackfillFault.{BackfillFault}
use Rattle.bf_exec.specs.Faults.{MayFail}
use Rattle.bf_journal.specs.declared.fault.JournalFault.{JournalFault}
use Rattle.bf_journal.specs.declared.fault.JournalFault.TheVariants as journal
use Rattle.bf_journal.specs.Found.{IsFault}
use Rattle.bf_journal.specs.Heads.{head_text}
use Rattle.bf_journal.specs.Since.{left_of, since}
use Rattle.bf_command_fault.specs.Refusal.{Leaves, of_journal}
use Rattle.bf_command_fault.specs.declared.fault.CommandFault.{CommandFault}
use Rattle.bf_command_fault.specs.declared.fault.CommandFault.TheVariants.{CannotWrite, Journal, OutOfMemory, Stopped}
use Rattle.bf_command_fault.specs.declared.stop.StopFault.{StopFault}
use Rattle.bf_commands.specs.Journaled.{HasTries, Heading, JournalReportFault}
use Rattle.bf_commands.specs.inner.Journaled.{IsFaultOfJournal, IsStopRecordedOrWanting, IsToldAt, IsToldOfRecorded}
use Rattle.bf_planning.specs.Wanting.{IsWanting}

-- ---- what is told of what stopped one

module _ (most : Option ℕ) (kept : Ledger) (logs : Option (List ℕ)) (dag : Dag) (intervals : List Interval) where
  told_at : (name : JobName) (told : CommandFault) → (given : Given) × IsNew kept name given → IsToldAt most logs dag intervals name told → IsStopRecordedOrWanting most kept logs dag intervals told
  told_at name (Stopped StopFault.CannotRecord) may is = tt
  told_at name (Stopped (StopFault.EnoughFailed count)) may is = is
  told_at name (Stopped (StopFault.GaveUp task index attempt)) may is = (name, may.0, may.1, is.0, is.1, is.2)
  told_at name (Stopped (StopFault.CannotLog path)) may is = (name, may.0, may.1, is)
  told_at name OutOfMemory may is = tt
  told_at name told may is = absurd is

  pub told_recorded : (fault : BackfillFault) (told : CommandFault) → MayFail (MayGiveUpAnew kept (λ n g. Unit {0})) fault → IsToldOfRecorded most logs dag intervals fault told → IsStopRecordedOrWanting most kept logs dag intervals told
  told_recorded BackfillFault.OutOfMemory told may is = rw is tt
  told_recorded BackfillFault.Start told may is = rw is tt
  told_recorded (BackfillFault.Runner name) told may is = told_at name told (may.0, may.1.0) is

  pub wanting_recorded : (fault : CommandFault) → IsWanting fault → IsStopRecordedOrWanting most kept logs dag intervals fault
  wanting_recorded OutOfMemory is = tt
  wanting_recorded (CannotWrite n) is = tt
  wanting_recorded fault is = absurd is

-- ---- the faults of parts are those of the whole

pub journal_fault : (dag : Dag) (intervals : List Interval) (cleared : Heading) (held : List ℕ) (fault : JournalFault) → IsFault dag intervals (head_text dag intervals cleared) held fault
    → IsFaultOfJournal dag intervals cleared held (of_journal fault)
journal_fault dag intervals cleared held journal.OutOfMemory is = tt
journal_fault dag intervals cleared held fault is = is

module _ (most : Option ℕ) (before : Ledger) (retry : Bool) (held : List ℕ) (cleared : Heading) (logs : Option (List ℕ)) (dag : Dag) (intervals : List Interval) where
  pub journal_since : (fault : CommandFault) → IsFaultOfJournal dag intervals cleared held fault → JournalReportFault most before retry held cleared logs dag intervals fault
  journal_since (Journal fault) is = is
  journal_since (Stopped StopFault.CannotRecord) is = tt
  journal_since OutOfMemory is = tt
  journal_since fault is = absurd is

  pub stop_since : (tries : Ledger) → HasTries dag intervals cleared held tries → (fault : CommandFault) → IsStopRecordedOrWanting most (since (left_of retry dag tries) before) logs dag intervals fault
      → JournalReportFault most before retry held cleared logs dag intervals fault
  stop_since tries has (Stopped StopFault.CannotRecord) is = tt
  stop_since tries has (Stopped StopFault.CannotStart) is = (tries, has, is)
  stop_since tries has (Stopped (StopFault.EnoughFailed count)) is = (tries, has, is)
  stop_since tries has (Stopped (StopFault.CannotLog path)) is = (tries, has, is)
  stop_since tries has (Stopped (StopFault.GaveUp task index attempt)) is = (tries, has, is)
  stop_since tries has OutOfMemory is = tt
  stop_since tries has (CannotWrite n) is = tt
  stop_since tries has fault is = absurd is

-- ---- what is left

pub journal_leaves : (dag : Dag) (intervals : List Interval) (cleared : Heading) (held : List ℕ) (Halted : Type 0) (IsDue : List ℕ → Type 0) (before : Option (List ℕ)) (fault : CommandFault)
    → IsFaultOfJournal dag intervals cleared held fault → Leaves Halted IsDue before before fault
journal_leaves dag intervals cleared held Halted IsDue before (CannotWrite n) is = absurd is
journal_leaves dag intervals cleared held Halted IsDue before fault is = refl
