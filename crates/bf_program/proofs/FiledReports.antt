-- Reports that go to files.
use Rattle.std.proofs.Common.{◌≡◌, ℕ, List, [], Option, None, Some, true, option_map, refl, sym, ap, ◌∙◌, subst, inl, inr}
use Rattle.bf_device.specs.Device.{sent}
use Rattle.bf_file.specs.declared.call.Call.{Call}
use Rattle.bf_file.specs.declared.call.Placed.{Placed}
use Rattle.bf_file.specs.declared.fault.PlaceFault.{PlaceFault}
use Rattle.bf_file.specs.declared.fault.ReplaceFault.{ReplaceFault}
use Rattle.bf_file.specs.Pages.{HasLeftBy, HasReplacedBy}
use Rattle.bf_file.specs.Replacing.{HasLeft, HasReplaced, text_by}
use Rattle.bf_command_fault.specs.Refusal.{Leaves, Sends}
use Rattle.bf_command_fault.specs.declared.fault.CommandFault.{CommandFault}
use Rattle.bf_command_fault.specs.declared.fault.CommandFault.TheVariants.{CannotWriteFile, CannotWrite, OutOfMemory, ReportLeft}
use Rattle.bf_command_fault.specs.declared.status.Status.{Status}
use Rattle.bf_command_line.specs.declared.forms.Asked.{Asked}
use Rattle.bf_command_line.specs.declared.forms.Asked.TheVariants as asked
use Rattle.bf_command_line.specs.declared.forms.ClearAsked.{ClearAsked}
use Rattle.bf_command_line.specs.declared.forms.GraphAsked.{GraphAsked}
use Rattle.bf_command_line.specs.declared.forms.JournalAsked.{JournalAsked}
use Rattle.bf_planning.specs.declared.range.RunRange.{RunRange}
use Rattle.bf_process.specs.Words.{LaunchingOf}
use Rattle.bf_commands.specs.Programs.{Losing}
use Rattle.bf_disk.specs.Files.{Files}
use Rattle.bf_backfills.specs.Commands.{Machine}
use Rattle.bf_backfills.specs.CommandFaults.{IsClearFaultBy, IsRunFaultBy}
use Rattle.bf_input.specs.Overwriting.{Leads, MayLead}
use Rattle.bf_command_line.specs.Naming.{logs_of}
use Rattle.bf_program.specs.CommandFaults.{IsFault, IsFaultBy, LeavesFiled}
use Rattle.bf_program.specs.inner.Filed.{filed_fault, placing_fault, replacing_fault}

-- ---- the file

-- what a command sent to an empty page is the text by which the file was replaced
pub replaced_by : (before after : Option (List Placed)) (begun : Option (List ℕ)) (path text : List ℕ) (empty full : Option (List ℕ))
    → begun ≡ Some path → empty ≡ option_map (λ _. []) before → full ≡ sent empty text
    → HasReplacedBy before after begun full → HasReplaced before after path text
replaced_by None after begun path text empty full of_path none all is = tt
replaced_by (Some before) after begun path text empty full of_path none all is =
    subst (HasReplacedBy (Some before) after (Some path)) (all ∙ ap (λ told. sent told text) none)
    (subst (λ (b : Option (List ℕ)). HasReplacedBy (Some before) after b full) of_path is)

-- where it isn't told from then on whether new files stay
untold_left : (before after : Option (List Placed)) (name text : List ℕ) → after ≡ None → HasLeft before after name text
untold_left None after name text untold = tt
untold_left (Some before) after name text untold = subst (λ (a : Option (List Placed)). HasLeft (Some before) a name text) (sym untold) tt

-- and that of the file that stays where it couldn't be renamed
pub left_by : (IsText : List ℕ → Status → Type 0) (status : Status) (told before after : Option (List Placed)) (path : List ℕ) (empty full : Option (List ℕ))
    → empty ≡ option_map (λ _. []) told → Sends (λ text. IsText text status) empty full → (fault : PlaceFault) → HasLeftBy before after fault full
    → LeavesFiled (λ text. (s : Status) × IsText text s) before after (placing_fault path fault)
left_by IsText status told before after path empty full none sends (PlaceFault.Lost ReplaceFault.CannotReplace) same = same
left_by IsText status told before after path empty full none sends (PlaceFault.Lost ReplaceFault.OutOfMemory) same = same
left_by IsText status None before after path empty full none sends (PlaceFault.Left name) left = (
  sends.0,
  (status, sends.1),
  untold_left before after name sends.0 (subst (HasLeftBy before after (PlaceFault.Left name)) (sends.2 ∙ ap (λ e. sent e sends.0) none) left),
)
left_by IsText status (Some told) before after path empty full none sends (PlaceFault.Left name) left = (
  sends.0,
  (status, sends.1),
  subst (HasLeftBy before after (PlaceFault.Left name)) (sends.2 ∙ ap (λ e. sent e sends.0) none) left,
)

pub empty_text : (before : Option (List Placed)) (calls : Option (List Call))
    → calls ≡ option_map (λ _. []) before → option_map text_by calls ≡ option_map (λ _. []) before
empty_text None calls is = ap (option_map text_by) is
empty_text (Some before) calls is = ap (option_map text_by) is

-- ---- faults

-- where a file can't be replaced, none is left
pub unplaced_leaves : (IsDue : List ℕ → Type 0) (before after : Option (List Placed)) (path : List ℕ) (fault : ReplaceFault) → after ≡ before
    → LeavesFiled IsDue before after (replacing_fault path fault)
unplaced_leaves IsDue before after path ReplaceFault.CannotReplace same = same
unplaced_leaves IsDue before after path ReplaceFault.OutOfMemory same = same

module _ (may_lose : Losing) (files : Files) (machine : Machine) where
  run_left : (path name : List ℕ) (launching : LaunchingOf) (graph : GraphAsked) (journal : Option JournalAsked) (range : RunRange)
      → IsRunFaultBy launching may_lose files machine.journals graph journal range (ReportLeft path name) → ⊥
  run_left path name launching graph None range is = is
  run_left path name launching graph (Some journal) range is = is

  clear_left : (path name : List ℕ) (a : ClearAsked) (journal : Option JournalAsked) (range : RunRange)
      → IsClearFaultBy may_lose files machine.journals a journal range (ReportLeft path name) → ⊥
  clear_left path name a None range is = is
  clear_left path name a (Some journal) range is = is

  -- no command leaves a report by itself
  none_left : (a : Asked) (path name : List ℕ) → IsFault may_lose files machine a (ReportLeft path name) → ⊥
  none_left (asked.Check c) path name is = is
  none_left (asked.List c) path name is = is.2
  none_left (asked.Single c) path name is = is.2
  none_left (asked.Dry c) path name is = is.2
  none_left (asked.Run c) path name is = run_left path name _ c.graph c.journal is.0 is.2
  none_left (asked.Clear c) path name is = clear_left path name c c.journal is.0 is.2
  none_left (asked.Keep c) path name is = clear_left path name c c.journal is.0 is.2
  none_left (asked.ClearPlan c) path name is = is.2
  none_left (asked.Show c) path name is = elim is.2 [
    | inl bad ↦ bad
    | inr bad ↦ bad.1
  ]
  none_left (asked.ShowJson p) path name is = is
  none_left (asked.Page c) path name is = is
  none_left (asked.Explain c) path name is = is.2
  none_left (asked.Answers p) path name is = is
  none_left (asked.Schema format) path name is = is
  none_left (asked.Completions shell) path name is = is

  -- where a command ends with a fault, none is
  pub unfiled_leaves : (IsDue : List ℕ → Type 0) (before after : Option (List Placed)) (path : List ℕ) (a : Asked) (fault : CommandFault) (reason : ReplaceFault)
      → IsFault may_lose files machine a fault → after ≡ before → LeavesFiled IsDue before after (filed_fault path reason fault)
  unfiled_leaves IsDue before after path a (CannotWrite n) reason is same = unplaced_leaves IsDue before after path reason same
  unfiled_leaves IsDue before after path a (ReportLeft p name) reason is same = absurd (none_left a p name is)
  unfiled_leaves IsDue before after path a fault reason is same = same

module _ (may_lose : Losing) (files : Files) (machine : Machine) (leads : Leads) where
  -- where a command ends with a fault
  pub fault_by_file : (path : List ℕ) (HasFailed Halted : Type 0) (IsDue : List ℕ → Type 0) (before after : Option (List ℕ))
      (a : Asked) (fault : CommandFault) (reason : ReplaceFault)
      → IsFault may_lose files machine a fault → Leaves Halted IsDue before after fault → (Halted → HasFailed)
      → IsFaultBy leads (Some path) HasFailed may_lose files machine a (filed_fault path reason fault)
  fault_by_file path HasFailed Halted IsDue before after a (CannotWrite n) ReplaceFault.CannotReplace is left failed =
      inl (refl, inl (failed left.0))
  fault_by_file path HasFailed Halted IsDue before after a (CannotWrite n) ReplaceFault.OutOfMemory is left failed = tt
  fault_by_file path HasFailed Halted IsDue before after a (CannotWriteFile p) reason is left failed =
      inr is
  fault_by_file path HasFailed Halted IsDue before after a (ReportLeft p name) reason is left failed = absurd (none_left may_lose files machine a p name is)
  fault_by_file path HasFailed Halted IsDue before after a OutOfMemory reason is left failed = tt
  fault_by_file path HasFailed Halted IsDue before after a fault reason is left failed = is

  -- where the file can't be replaced
  pub unreplaced_fault : (path : List ℕ) (HasFailed : Type 0) (a : Asked) (fault : ReplaceFault) → HasFailed
      → IsFaultBy leads (Some path) HasFailed may_lose files machine a (replacing_fault path fault)
  unreplaced_fault path HasFailed a ReplaceFault.CannotReplace failed = inl (refl, inl failed)
  unreplaced_fault path HasFailed a ReplaceFault.OutOfMemory failed = tt

  -- or the new file isn't at its path
  pub unplaced_fault : (path : List ℕ) (HasFailed : Type 0) (a : Asked) (fault : PlaceFault) → HasFailed
      → IsFaultBy leads (Some path) HasFailed may_lose files machine a (placing_fault path fault)
  unplaced_fault path HasFailed a (PlaceFault.Lost fault) failed = unreplaced_fault path HasFailed a fault failed
  unplaced_fault path HasFailed a (PlaceFault.Left name) failed = (refl, failed)
