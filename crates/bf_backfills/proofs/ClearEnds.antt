-- What the command `clear` comes to, by what was read of its files.
use Rattle.std.proofs.Common.{◌≡◌, ℕ, ℤ, Bool, List, Option, Some, None, option_map, string_bytes, refl, sym, subst, inl, inr}
use Rattle.bf_plan.specs.declared.plan.Dag.{Dag}
use Rattle.bf_interval.specs.declared.interval.Interval.{Interval}
use Rattle.bf_table.specs.declared.table.TableEntry.{TableEntry}
use Rattle.bf_report.specs.declared.report.Report.{Report as Reported}
use Rattle.bf_commands.specs.declared.cleared.ToClear.{ToClear}
use Rattle.bf_try.specs.Tries.{Ledger}
use Rattle.bf_command_line.specs.declared.forms.ClearAsked.{ClearAsked}
use Rattle.bf_command_line.specs.declared.forms.ClearPlanAsked.{ClearPlanAsked}
use Rattle.bf_command_line.specs.declared.forms.JournalAsked.{JournalAsked}
use Rattle.bf_command_fault.specs.Status.{of_runs}
use Rattle.bf_command_fault.specs.declared.fault.CommandFault.{CommandFault}
use Rattle.bf_command_fault.specs.declared.fault.CommandFault.TheVariants.{Read, Check, Table, Range, Report, Journal, Clear, Seeds, JournalInUse, BadMoment, OutOfMemory, CannotLaunch, CannotRead, CannotWriteFile, CannotWrite, Stopped}
use Rattle.bf_command_fault.specs.declared.status.Status.{Status}
use Rattle.bf_command_fault.specs.declared.stop.StopFault.{StopFault}
use Rattle.bf_planning.specs.declared.range.RunRange.{RunRange}
use Rattle.bf_report_reader.specs.Reading.{IsReadAs}
use Rattle.bf_commands.specs.Cleared.{ClearingFault, IsPrepared, IsReady, IsReportAfter, IsUncleared}
use Rattle.bf_commands.specs.Journaled.{Heading, IsClearable, IsClearedBy, JournalReportFault, IsJournaledAfter}
use Rattle.bf_commands.specs.OverTable.{is_single_threaded_in}
use Rattle.bf_commands.specs.Planned.{IsClearPlan, ClearPlanFault}
use Rattle.bf_process.specs.Words.{LaunchingOf}
use Rattle.bf_commands.specs.Programs.{Hearing, Losing, launched_by, with_clocks}
use Rattle.bf_disk.specs.Files.{AreReadable, Files, IsHeld, IsReadable}
use Rattle.bf_input.specs.Inputs.{OfFilesAndNamedTable}
use Rattle.bf_input.specs.inner.Inputs.{IsReadOf}
use Rattle.bf_backfills.specs.Commands.{IsClearAnswer, IsClearPlanAnswer, IsClearReportBy, IsLaunchable, Machine, MeansCleared, MeansRange, OfClearFiles, OfJournal, Startable, clear_input, first_paths, launcher_used_of, launching_asked_of, plan_input}
use Rattle.bf_backfills.specs.CommandFaults.{CanClear, GoesWrongOver, IsClearFault, IsClearFaultBy, IsClearPlanFault, IsFaultOfClearAsked, IsFaultOfClearInput, IsRecordedClearFault}
use Rattle.bf_backfills.specs.inner.CommandFaults.{IsFaultOfAsked, IsFaultOfLauncher}
use Rattle.bf_backfills.specs.inner.Named.{IsFaultOfTextsAsked}
use Rattle.bf_backfills.specs.inner.Files.{IsOfBytes}
use Rattle.bf_backfills.specs.inner.Journals.{GoesWrongAfter, IsFaultAfterBy, IsReportAfterBy}
use Rattle.bf_backfills.proofs.ClearInputs.{prepared_held, ready, uncleared}

-- ---- before a file is read

pub clear_unasked : (may_lose : Losing) (files : Files) (machine : Machine) (asked : ClearAsked) (fault : CommandFault) → IsFaultOfAsked machine.startable asked fault → IsClearFault may_lose files machine asked fault
clear_unasked may_lose files machine asked BadMoment is = is
clear_unasked may_lose files machine asked (CannotLaunch path) is = is
clear_unasked may_lose files machine asked OutOfMemory is = (is.0, is.1, go asked.journal)
  where
    go : (o : Option JournalAsked) → IsClearFaultBy may_lose files machine.journals asked o is.0 OutOfMemory
    go None = tt
    go (Some journal) = tt
clear_unasked may_lose files machine asked fault is = absurd is

pub asked_unmeant : (startable : Startable) (asked : ClearAsked) (fault : CommandFault) → IsFaultOfTextsAsked asked.range asked.cleared fault → IsFaultOfAsked startable asked fault
asked_unmeant startable asked (CannotLaunch path) is = absurd is
asked_unmeant startable asked fault is = is

pub asked_unlaunched : (startable : Startable) (asked : ClearAsked) (range : RunRange) → MeansRange asked.range range → (fault : CommandFault)
    → IsFaultOfLauncher startable (launcher_used_of asked.table asked.launcher) fault → IsFaultOfAsked startable asked fault
asked_unlaunched startable asked range means (CannotLaunch path) is = is
asked_unlaunched startable asked range means OutOfMemory is = (range, means)
asked_unlaunched startable asked range means fault is = absurd is

pub plan_unmeant : (files : Files) (asked : ClearPlanAsked) (fault : CommandFault) → IsFaultOfTextsAsked asked.range asked.cleared fault → IsClearPlanFault files asked fault
plan_unmeant files asked BadMoment is = is
plan_unmeant files asked OutOfMemory is = (is.0, is.1, tt)
plan_unmeant files asked fault is = absurd is

-- ---- where it is cleared

module _ (may_lose : Losing) (files : Files) (machine : Machine) (asked : ClearAsked) (range : RunRange) (means : MeansRange asked.range range) where
  -- a fault that comes before a journal is opened is the same where one is named
  before_journal : (fault : CommandFault) → (IsFaultOfClearInput files (clear_input asked) range fault → IsFaultOfClearAsked may_lose files asked range fault)
      → ((journal : JournalAsked) → IsFaultOfClearInput files (clear_input asked) range fault → IsRecordedClearFault files machine.journals asked journal range fault)
      → IsFaultOfClearInput files (clear_input asked) range fault → IsClearFaultBy may_lose files machine.journals asked asked.journal range fault
  before_journal fault unrecorded recorded is = go asked.journal
    where
      go : (journal : Option JournalAsked) → IsClearFaultBy may_lose files machine.journals asked journal range fault
      go None = unrecorded is
      go (Some journal) = recorded journal is

  pub of_clearing : (fault : CommandFault) → IsFaultOfClearInput files (clear_input asked) range fault → IsClearFault may_lose files machine asked fault
  of_clearing (Read fault) is = (range, means, before_journal (Read fault) (λ i. i) (λ j i. i) is)
  of_clearing (Check fault) is = (range, means, before_journal (Check fault) (λ i. i) (λ j i. i) is)
  of_clearing (Table fault) is = (range, means, before_journal (Table fault) (λ i. i) (λ j i. i) is)
  of_clearing (Range fault) is = (range, means, before_journal (Range fault) (λ i. i) (λ j i. i) is)
  of_clearing (Report fault) is = (range, means, before_journal (Report fault) (λ i. i) (λ j i. i) is)
  of_clearing (Clear fault) is = (range, means, before_journal (Clear fault) (λ i. i) (λ j i. i) is)
  of_clearing (Seeds fault) is = (range, means, before_journal (Seeds fault) (λ i. i) (λ j i. i) is)
  of_clearing OutOfMemory is = (range, means, before_journal OutOfMemory (λ i. i) (λ j i. i) is)
  of_clearing (CannotWrite n) is = (range, means, before_journal (CannotWrite n) (λ i. i) (λ j i. i) is)
  of_clearing (CannotRead path) is = (range, means, before_journal (CannotRead path) (λ i. i) (λ j i. inl i) is)
  of_clearing fault is = absurd is

  module _ (launchable : IsLaunchable machine.startable (launcher_used_of asked.table asked.launcher))
      (dag : Dag) (found : List Interval) (clocks : List ℤ) (answers : Option (List TableEntry)) (readable : AreReadable files (first_paths (clear_input asked))) (what : ToClear) (means_what : MeansCleared files asked.cleared what)
      (said : IsOfBytes files asked.graph (option_map string_bytes asked.table) (λ graph zone table. IsPrepared graph zone table range dag found clocks answers)) where
    abbrev as_ready : OfFilesAndNamedTable files asked.graph (option_map string_bytes asked.table) (λ graph held other. IsReady graph held other range)
    as_ready = ready files (clear_input asked) range dag found clocks answers readable what means_what said

    abbrev as_prepared : OfFilesAndNamedTable files asked.graph (option_map string_bytes asked.table) (λ graph held other. IsPrepared graph held other range dag found clocks answers)
    as_prepared = prepared_held files (clear_input asked) range dag found clocks answers readable what means_what said

    module _ (was : Reported) (is_read : IsReadOf (files (string_bytes asked.report)) was) where
      report_readable : IsReadable (files (string_bytes asked.report))
      report_readable = is_read.readable

      says : (held : List ℕ) → IsHeld (files (string_bytes asked.report)) held → IsReadAs held was
      says = is_read.says

      clear_refused : (fault : CommandFault) → IsUncleared dag found was what fault → IsClearFault may_lose files machine asked fault
      clear_refused fault is = of_clearing fault (uncleared files (clear_input asked) range dag found clocks answers readable what means_what said report_readable was says fault is)

      -- memory or the device is wanting
      clear_memory : IsClearFault may_lose files machine asked OutOfMemory
      clear_memory = of_clearing OutOfMemory tt

      clear_write : (n : ℕ) → IsClearFault may_lose files machine asked (CannotWrite n)
      clear_write n = of_clearing (CannotWrite n) (readable, report_readable)

      -- ---- where no journal is named

      module _ (none : asked.journal ≡ None) where
        clear_again : (fault : CommandFault) → ClearingFault (is_single_threaded_in asked.progress) (with_clocks (launching_asked_of asked.launcher asked.logs) clocks) may_lose answers dag found was what fault → IsClearFault may_lose files machine asked fault
        clear_again (Clear fault) is = clear_refused (Clear fault) is
        clear_again (Seeds fault) is = clear_refused (Seeds fault) is
        clear_again OutOfMemory is = clear_memory
        clear_again (CannotWrite n) is = clear_write n
        clear_again (Stopped stop) is = (
          range,
          means,
          subst (λ (o : Option JournalAsked). IsClearFaultBy may_lose files machine.journals asked o range (Stopped stop)) (sym none)
              (readable, report_readable, what, means_what, λ graph held other are holds reported told. (record { ready = as_ready graph held other are holds; was = was; report_says = says reported told; kept = is.0; kept_is = is.1; stops = is.2 })),
        )
        clear_again fault is = absurd is

        clear_answer : (may_hear : Hearing) (text : List ℕ) (success : Bool) → IsReportAfter (launched_by (launching_asked_of asked.launcher asked.logs) may_hear clocks) answers dag found was what text success → IsClearAnswer may_hear files machine asked text (of_runs success)
        clear_answer may_hear text success is = record {
          range = range;
          means = means;
          what = what;
          means_what = means_what;
          succeeded = success;
          status_is = refl;
          launchable = launchable;
          readable = readable;
          report_readable = report_readable;
          text_is = λ graph held other are holds reported told. (let p = as_prepared graph held other are holds in
              subst (λ (o : Option JournalAsked). IsClearReportBy (launching_asked_of asked.launcher asked.logs) may_hear machine.journals o range what graph held other reported text success) (sym none) (record {
                draft = p.draft;
                answers = answers;
                found = found;
                was = was;
                graph_is = p.graph_is;
                table_says = p.table_says;
                listing = p.listing;
                report_says = says reported told;
                clocks = clocks;
                clocks_are = p.clocks_are;
                reported = subst (λ (d : Dag). IsReportAfter (launched_by (launching_asked_of asked.launcher asked.logs) may_hear clocks) answers d found was what text success) p.dag_is is;
              }));
        }

      -- ---- where one is

      module _ (journal : JournalAsked) (named : asked.journal ≡ Some journal) where
        abbrev clearable : (kept : Ledger) (cleared : Heading) → IsClearedBy dag found was what kept cleared → OfClearFiles files (clear_input asked) (λ graph zone table report. IsClearable graph zone table report range what)
        clearable kept cleared is graph held other are holds reported told =
            record { ready = as_ready graph held other are holds; was = was; report_says = says reported told; kept = kept; cleared = cleared; cleared_is = is }

        can_clear : (kept : Ledger) (cleared : Heading) → IsClearedBy dag found was what kept cleared → CanClear files asked range
        can_clear kept cleared is = (readable, report_readable, what, means_what, clearable kept cleared is)

        goes_wrong : (fault : CommandFault) (kept : Ledger) (cleared : Heading) (is : IsClearedBy dag found was what kept cleared)
            → OfJournal machine.journals journal (λ bytes. JournalReportFault journal.stop_after kept journal.retry_failed bytes cleared (option_map string_bytes asked.logs) dag found fault)
            → GoesWrongOver files machine.journals asked journal range fault
        goes_wrong fault kept cleared is wrong = (
          readable,
          report_readable,
          what,
          means_what,
          λ graph held other are holds reported told bytes are_held.
              (record { clearable = clearable kept cleared is graph held other are holds reported told; fault_is = wrong bytes are_held }),
        )

        recorded : (fault : CommandFault) → GoesWrongAfter (option_map string_bytes asked.logs) machine.journals dag found was what journal fault → IsRecordedClearFault files machine.journals asked journal range fault
        recorded (CannotRead path) is = inr (is.fault_is.0, is.fault_is.1, can_clear is.kept is.cleared is.cleared_is)
        recorded JournalInUse is = (is.fault_is, can_clear is.kept is.cleared is.cleared_is)
        recorded (CannotWriteFile path) is = (is.fault_is, can_clear is.kept is.cleared is.cleared_is)
        recorded (Journal fault) is = goes_wrong (Journal fault) is.kept is.cleared is.cleared_is is.fault_is
        recorded (Stopped StopFault.CannotRecord) is = absurd is.fault_is
        recorded (Stopped stop) is = goes_wrong (Stopped stop) is.kept is.cleared is.cleared_is is.fault_is
        recorded OutOfMemory is = tt
        recorded (CannotWrite n) is = (readable, report_readable)
        recorded fault is = absurd is.fault_is

        as_command : (fault : CommandFault) → IsRecordedClearFault files machine.journals asked journal range fault → IsClearFaultBy may_lose files machine.journals asked asked.journal range fault
        as_command fault is = subst (λ (o : Option JournalAsked). IsClearFaultBy may_lose files machine.journals asked o range fault) (sym named) is

        clear_since : (fault : CommandFault) → GoesWrongAfter (option_map string_bytes asked.logs) machine.journals dag found was what journal fault → IsClearFault may_lose files machine asked fault
        clear_since BadMoment is = absurd is.fault_is
        clear_since (CannotLaunch path) is = absurd is.fault_is
        clear_since fault is = (range, means, as_command fault (recorded fault is))

        journaled_answer : (may_hear : Hearing) (text : List ℕ) (success : Bool) → OfJournal machine.journals journal (λ bytes. IsJournaledAfter (launched_by (launching_asked_of asked.launcher asked.logs) may_hear clocks) answers dag found was what journal.retry_failed bytes text success)
            → IsClearAnswer may_hear files machine asked text (of_runs success)
        journaled_answer may_hear text success is = record {
          range = range;
          means = means;
          what = what;
          means_what = means_what;
          succeeded = success;
          status_is = refl;
          launchable = launchable;
          readable = readable;
          report_readable = report_readable;
          text_is = λ graph held other are holds reported told. (let p = as_prepared graph held other are holds in
              subst (λ (o : Option JournalAsked). IsClearReportBy (launching_asked_of asked.launcher asked.logs) may_hear machine.journals o range what graph held other reported text success) (sym named) (λ bytes are_held. (record {
                draft = p.draft;
                answers = answers;
                found = found;
                was = was;
                graph_is = p.graph_is;
                table_says = p.table_says;
                listing = p.listing;
                report_says = says reported told;
                clocks = clocks;
                clocks_are = p.clocks_are;
                reported = subst (λ (d : Dag). IsJournaledAfter (launched_by (launching_asked_of asked.launcher asked.logs) may_hear clocks) answers d found was what journal.retry_failed bytes text success) p.dag_is (is bytes are_held);
              })));
        }

      -- ---- whether one is or not

      pub clear_faults : (launching : LaunchingOf) → launching ≡ launching_asked_of asked.launcher asked.logs → (fault : CommandFault)
          → IsFaultAfterBy (is_single_threaded_in asked.progress) (with_clocks launching clocks) may_lose machine.journals asked.journal answers dag found was what fault → IsClearFault may_lose files machine asked fault
      clear_faults launching same fault is = go asked.journal refl
          (subst (λ (l : LaunchingOf). IsFaultAfterBy (is_single_threaded_in asked.progress) (with_clocks l clocks) may_lose machine.journals asked.journal answers dag found was what fault) same is)
        where
          go : (o : Option JournalAsked) → asked.journal ≡ o → IsFaultAfterBy (is_single_threaded_in asked.progress) (with_clocks (launching_asked_of asked.launcher asked.logs) clocks) may_lose machine.journals o answers dag found was what fault
              → IsClearFault may_lose files machine asked fault
          go None none is = clear_again none fault is
          go (Some journal) named (inl refused) = clear_refused fault refused
          go (Some journal) named (inr wrong) = clear_since journal named fault wrong

      pub clear_answers : (launching : LaunchingOf) → launching ≡ launching_asked_of asked.launcher asked.logs → (may_hear : Hearing) (text : List ℕ) (success : Bool)
          → IsReportAfterBy (launched_by launching may_hear clocks) machine.journals asked.journal answers dag found was what text success → IsClearAnswer may_hear files machine asked text (of_runs success)
      clear_answers launching same may_hear text success is = go asked.journal refl
          (subst (λ (l : LaunchingOf). IsReportAfterBy (launched_by l may_hear clocks) machine.journals asked.journal answers dag found was what text success) same is)
        where
          go : (o : Option JournalAsked) → asked.journal ≡ o → IsReportAfterBy (launched_by (launching_asked_of asked.launcher asked.logs) may_hear clocks) machine.journals o answers dag found was what text success → IsClearAnswer may_hear files machine asked text (of_runs success)
          go None none is = clear_answer none may_hear text success is
          go (Some journal) named is = journaled_answer journal named may_hear text success is

-- ---- where it is only told

module _ (files : Files) (asked : ClearPlanAsked) (range : RunRange) (means : MeansRange asked.range range) where
  pub of_planning : (fault : CommandFault) → IsFaultOfClearInput files (plan_input asked) range fault → IsClearPlanFault files asked fault
  of_planning BadMoment is = absurd is
  of_planning fault is = (range, means, is)

  module _ (dag : Dag) (found : List Interval) (clocks : List ℤ) (answers : Option (List TableEntry)) (readable : AreReadable files (first_paths (plan_input asked))) (what : ToClear) (means_what : MeansCleared files asked.cleared what)
      (said : IsOfBytes files asked.graph None (λ graph zone table. IsPrepared graph zone table range dag found clocks answers))
      (was : Reported) (is_read : IsReadOf (files (string_bytes asked.report)) was) where
    pub plan_fault : (fault : CommandFault) → ClearPlanFault dag found was what fault → IsClearPlanFault files asked fault
    plan_fault (CannotWrite n) is = of_planning (CannotWrite n) (readable, is_read.readable)
    plan_fault (Clear fault) is = of_planning (Clear fault) (uncleared files (plan_input asked) range dag found clocks answers readable what means_what said is_read.readable was is_read.says (Clear fault) is)
    plan_fault (Seeds fault) is = of_planning (Seeds fault) (uncleared files (plan_input asked) range dag found clocks answers readable what means_what said is_read.readable was is_read.says (Seeds fault) is)
    plan_fault OutOfMemory is = of_planning OutOfMemory tt
    plan_fault fault is = absurd is

    pub plan_answer : (text : List ℕ) → IsClearPlan dag found was what text → IsClearPlanAnswer files asked text Status.Success
    plan_answer text is = record {
      success = refl;
      range = range;
      means = means;
      what = what;
      means_what = means_what;
      readable = readable;
      report_readable = is_read.readable;
      text_is = λ graph held other are holds reported told. (let p = prepared_held files (plan_input asked) range dag found clocks answers readable what means_what said graph held other are holds in record {
        draft = p.draft;
        found = found;
        was = was;
        graph_is = p.graph_is;
        listing = p.listing;
        report_says = is_read.says reported told;
        plan = subst (λ (d : Dag). IsClearPlan d found was what text) p.dag_is is;
      });
    }
