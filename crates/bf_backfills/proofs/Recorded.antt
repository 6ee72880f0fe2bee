-- Backfills that record their tries in a journal that is told of.
use Rattle.std.proofs.Common.{◌≡◌, ℕ, ℤ, Bool, List, [], Option, Some, Result, Ok, Err, IfErr, IfOk, string_bytes, refl, sym, subst, inl, inr}
use Rattle.std.proofs.lemmas.Result.{IfErr-weaker}
use Rattle.bf_value.specs.declared.name.JobName.{JobName}
use Rattle.bf_plan.specs.Checked.{Checked}
use Rattle.bf_plan.specs.declared.plan.Dag.{Dag}
use Rattle.bf_interval.specs.declared.interval.Interval.{Interval}
use Rattle.bf_xcom.specs.declared.values.Given.{Given}
use Rattle.bf_try.specs.declared.answers.Raw.{Raw}
use Rattle.bf_try.specs.Tries.{Ledger}
use Rattle.bf_kept.specs.Kept.{nothing}
use Rattle.bf_journal.specs.Heads.{head_text}
use Rattle.bf_journal.specs.declared.fault.JournalFault.{JournalFault}
use Rattle.bf_process.specs.Words.{LaunchingOf, MayAnswer}
use Rattle.bf_table.specs.declared.table.TableEntry.{TableEntry}
use Rattle.bf_report.specs.declared.report.Report.{Report}
use Rattle.bf_commands.specs.declared.cleared.ToClear.{ToClear}
use Rattle.bf_command_line.specs.declared.forms.JournalAsked.{JournalAsked}
use Rattle.bf_command_fault.proofs.Leaving.{leaves_due}
use Rattle.bf_command_fault.specs.Refusal.{Leaves, Sends}
use Rattle.bf_command_fault.specs.declared.fault.CommandFault.{CommandFault}
use Rattle.bf_command_fault.specs.declared.fault.CommandFault.TheVariants.{CannotRead, CannotWrite, Journal, JournalInUse, OutOfMemory, Range, Stopped}
use Rattle.bf_command_fault.specs.declared.stop.StopFault.{StopFault}
use Rattle.bf_planning.specs.declared.range.RunRange.{RunRange}
use Rattle.bf_commands.specs.Cleared.{MayAnswerBy}
use Rattle.bf_planning.specs.Graphs.{IsPlanOf}
use Rattle.bf_commands.specs.Journaled.{Heading, IsClearedBy, JournalReportFault, IsJournaledReport, IsJournalReport}
use Rattle.bf_planning.specs.Lists.{HasListing, IsDatedFault, ListFault}
use Rattle.bf_planning.specs.Clocks.{AreClocksOf}
use Rattle.bf_commands.specs.Programs.{Hearing, HearingTries, launched_by}
use Rattle.bf_disk.specs.Files.{Files}
use Rattle.bf_backfills.specs.Commands.{OfJournal}
use Rattle.bf_backfills.specs.inner.Journals.{IsFaultOfJournaledBackfill, IsFaultOfOpening, IsFaultOfRecordedRun, IsReportAfterBy, IsReportOver, journaled_fault}

-- where the journal can't be opened, or has another head
pub opened_fault : (journals : Files) (asked : JournalAsked) (before : Ledger) (cleared : Heading) (logs : Option (List ℕ)) (dag : Dag) (found : List Interval) (fault : CommandFault)
    → IsFaultOfOpening journals asked (head_text dag found cleared) fault → IsFaultOfJournaledBackfill journals asked before cleared logs dag found fault
opened_fault journals asked before cleared logs dag found (CannotRead path) is = is
opened_fault journals asked before cleared logs dag found JournalInUse is = is
opened_fault journals asked before cleared logs dag found (Journal JournalFault.Mismatch) is = is
opened_fault journals asked before cleared logs dag found OutOfMemory is = tt
opened_fault journals asked before cleared logs dag found fault is = absurd is

pub opened_leaves : (journals : Files) (asked : JournalAsked) (head : List ℕ) (Halted : Type 0) (IsDue : List ℕ → Type 0) (before : Option (List ℕ)) (fault : CommandFault)
    → IsFaultOfOpening journals asked head fault → Leaves Halted IsDue before before fault
opened_leaves journals asked head Halted IsDue before (CannotWrite n) is = absurd is
opened_leaves journals asked head Halted IsDue before fault is = refl

module _ (journals : Files) (asked : JournalAsked) (held : List ℕ) (is_held : OfJournal journals asked (λ told. held ≡ told)) (before : Ledger) (cleared : Heading) (dag : Dag) (found : List Interval) where
  module _ (logs : Option (List ℕ)) where
    as_told : (fault : CommandFault) → JournalReportFault asked.stop_after before asked.retry_failed held cleared logs dag found fault
        → OfJournal journals asked (λ told. JournalReportFault asked.stop_after before asked.retry_failed told cleared logs dag found fault)
    as_told fault is told holds = subst (λ (h : List ℕ). JournalReportFault asked.stop_after before asked.retry_failed h cleared logs dag found fault) (is_held told holds) is

    -- the fault is told with the journal's path
    pub over : (fault : CommandFault) → JournalReportFault asked.stop_after before asked.retry_failed held cleared logs dag found fault → IsFaultOfJournaledBackfill journals asked before cleared logs dag found (journaled_fault (string_bytes asked.path) fault)
    over (Journal fault) is = as_told (Journal fault) is
    over (Stopped StopFault.CannotRecord) is = refl
    over (Stopped StopFault.CannotStart) is = as_told (Stopped StopFault.CannotStart) is
    over (Stopped (StopFault.EnoughFailed count)) is = as_told (Stopped (StopFault.EnoughFailed count)) is
    over (Stopped (StopFault.CannotLog path)) is = as_told (Stopped (StopFault.CannotLog path)) is
    over (Stopped (StopFault.GaveUp task index attempt)) is = as_told (Stopped (StopFault.GaveUp task index attempt)) is
    over OutOfMemory is = tt
    over (CannotWrite n) is = tt
    over fault is = absurd is

  pub report_over : (may_answer : JobName → Given → Raw → Type 0) (text : List ℕ) (success : Bool) → IsJournalReport before asked.retry_failed held cleared may_answer dag found text success
      → IsReportOver journals asked before cleared may_answer dag found text success
  report_over may_answer text success is told holds = subst (λ (h : List ℕ). IsJournalReport before asked.retry_failed h cleared may_answer dag found text success) (is_held told holds) is

-- and leaves what it left
pub told_leaves : (path : List ℕ) (Halted : Type 0) (IsDue : List ℕ → Type 0) (before after : Option (List ℕ)) (fault : CommandFault) → Leaves Halted IsDue before after fault → Leaves Halted IsDue before after (journaled_fault path fault)
told_leaves path Halted IsDue before after (Stopped StopFault.CannotRecord) left = left
told_leaves path Halted IsDue before after (Stopped stop) left = left
told_leaves path Halted IsDue before after fault left = left

-- ---- what comes of the journal that was opened

module _ (journals : Files) (asked : JournalAsked) (held : List ℕ) (is_held : OfJournal journals asked (λ told. held ≡ told)) (retry : Bool) (is_retry : retry ≡ asked.retry_failed)
    (before : Ledger) (cleared : Heading) (dag : Dag) (found : List Interval) (report : Result Bool CommandFault) where
  module _ (may_answer : JobName → Given → Raw → Type 0) (went went_after : Option (List ℕ)) where
    abbrev Reported : Bool → List ℕ → Bool → Type 0
    Reported r text success = IsJournalReport before r held cleared may_answer dag found text success

    as_asked : (text : List ℕ) (success : Bool) → Reported retry text success → IsReportOver journals asked before cleared may_answer dag found text success
    as_asked text success is = report_over journals asked held is_held before cleared dag found may_answer text success (subst (λ (r : Bool). Reported r text success) is_retry is)

    pub sends_over : (success : Bool) → report ≡ Ok success → IfOk report (λ s. Sends (λ text. Reported retry text s) went went_after)
        → Sends (λ text. IsReportOver journals asked before cleared may_answer dag found text success) went went_after
    sends_over success is ok =
        let sends : Sends (λ text. Reported retry text success) went went_after = subst (λ (r : Result Bool CommandFault). IfOk r (λ s. Sends (λ text. Reported retry text s) went went_after)) is ok in
        (sends.0, as_asked sends.0 success sends.1, sends.2)

    pub left_over : (Halted : Type 0) (path : List ℕ) (fault : CommandFault) → report ≡ Err fault → IfErr report (Leaves Halted (λ text. (success : Bool) × Reported retry text success) went went_after)
        → Leaves Halted (λ text. (success : Bool) × IsReportOver journals asked before cleared may_answer dag found text success) went went_after (journaled_fault path fault)
    left_over Halted path fault is err =
        let left : Leaves Halted (λ text. (success : Bool) × Reported retry text success) went went_after fault =
        subst (λ (r : Result Bool CommandFault). IfErr r (Leaves Halted (λ text. (success : Bool) × Reported retry text success) went went_after)) is err in
        told_leaves path Halted _ went went_after fault
        (leaves_due Halted (λ text. (success : Bool) × Reported retry text success) (λ text. (success : Bool) × IsReportOver journals asked before cleared may_answer dag found text success)
        (λ text due. (due.0, as_asked text due.0 due.1)) went went_after fault left)

  pub fault_over : (logs : Option (List ℕ)) (most : Option ℕ) → most ≡ asked.stop_after → (path : List ℕ) → path ≡ string_bytes asked.path → (fault : CommandFault) → report ≡ Err fault
      → IfErr report (JournalReportFault most before retry held cleared logs dag found) → IsFaultOfJournaledBackfill journals asked before cleared logs dag found (journaled_fault path fault)
  fault_over logs most is_most path is_path fault is err =
      let since : JournalReportFault most before retry held cleared logs dag found fault = subst (λ (r : Result Bool CommandFault). IfErr r (JournalReportFault most before retry held cleared logs dag found)) is err in
      let by_most = subst (λ (m : Option ℕ). JournalReportFault m before retry held cleared logs dag found fault) is_most since in
      let by_retry = subst (λ (r : Bool). JournalReportFault asked.stop_after before r held cleared logs dag found fault) is_retry by_most in
      subst (λ (p : List ℕ). IsFaultOfJournaledBackfill journals asked before cleared logs dag found (journaled_fault p fault)) (sym is_path) (over journals asked held is_held before cleared dag found logs fault by_retry)

-- ---- the runs of a range

-- why they aren't there is why they aren't listed
pub dated_list : (graph : List ℕ) (file : Option (List ℕ)) (range : RunRange) (fault : CommandFault) → IsDatedFault graph file range fault → ListFault graph file range fault
dated_list graph file range (Range fault) (inl is) = absurd is
dated_list graph file range (Range fault) (inr is) = is
dated_list graph file range (CannotWrite n) is = tt
dated_list graph file range OutOfMemory is = tt
dated_list graph file range fault (inl is) = is
dated_list graph file range fault (inr is) = absurd is

module _ {graph : List ℕ} {file : Option (List ℕ)} {plan : Checked} (range : RunRange) {found : List Interval} (is : IsPlanOf graph file plan) (listing : HasListing graph file range (Ok found)) (journals : Files) (asked : JournalAsked) where
  -- the report over the journal is that of `run`
  pub journaled : (launching : LaunchingOf) (may_hear : Hearing) (clocks : List ℤ) → AreClocksOf graph file found clocks → (text : List ℕ) (success : Bool)
      → IsReportOver journals asked nothing [] (MayAnswer (launched_by launching may_hear clocks) plan.dag found) plan.dag found text success
      → OfJournal journals asked (λ held. IsJournaledReport launching may_hear graph file asked.retry_failed held range text success)
  journaled launching may_hear clocks are text success over held told = record {
    draft = is.draft;
    found = found;
    graph_is = is.graph_is;
    listing = listing;
    clocks = clocks;
    clocks_are = are;
    reported = subst (λ (d : Dag). IsJournalReport nothing asked.retry_failed held [] (MayAnswer (launched_by launching may_hear clocks) d found) d found text success) is.dag (over held told);
  }

  -- and so is the fault
  pub run_fault : (logs : Option (List ℕ)) (r : Result Bool CommandFault) → IfErr r (IsFaultOfJournaledBackfill journals asked nothing [] logs plan.dag found) → IfErr r (IsFaultOfRecordedRun logs journals asked range graph file)
  run_fault logs r = IfErr-weaker r _ _ (λ fault over.
      inr (is.draft, found, is.graph_is, listing, subst (λ (d : Dag). IsFaultOfJournaledBackfill journals asked nothing [] logs d found fault) is.dag over))

-- ---- a report where some tasks are cleared

-- the report over the journal is that of `clear`
pub after_journal : (journals : Files) (asked : JournalAsked) (may_hear : HearingTries) (answers : Option (List TableEntry)) (dag : Dag) (found : List Interval) (was : Report) (what : ToClear)
    (kept : Ledger) (cleared : Heading) → IsClearedBy dag found was what kept cleared → (text : List ℕ) (success : Bool)
    → IsReportOver journals asked kept cleared (MayAnswerBy may_hear answers dag found) dag found text success → IsReportAfterBy may_hear journals (Some asked) answers dag found was what text success
after_journal journals asked may_hear answers dag found was what kept cleared cleared_is text success over held told =
    record { kept = kept; cleared = cleared; cleared_is = cleared_is; reported = over held told }
