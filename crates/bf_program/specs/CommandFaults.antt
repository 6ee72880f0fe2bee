-- Why a command comes to no answer, by what the files hold that it names, and what is told of that.
use Rattle.std.specs.Prelude.{◌≡◌, ◌≤◌, ◌⊎◌, ℕ, List, length, take, Option, Some, None, string_bytes}
use Rattle.clap.specs.Words.{Row, Text}
use Rattle.bf_device.specs.Device.{sent}
use Rattle.bf_file.specs.declared.call.Placed.{Placed}
use Rattle.bf_file.specs.Replacing.{HasLeft}
use Rattle.bf_command_line.specs.declared.forms.Asked.{Asked}
use Rattle.bf_command_line.specs.declared.forms.Asked.TheVariants.{Answers, Check, Clear, ClearPlan, Completions, Dry, Explain, Keep, List as Intervals, Page, Run, Schema, Show, ShowJson, Single}
use Rattle.bf_command_line.specs.declared.forms.CommandLine.{CommandLine}
use Rattle.bf_command_line.specs.Asked.{IsLineBy}
use Rattle.bf_command_fault.specs.declared.fault.CommandFault.{CommandFault}
use Rattle.bf_command_fault.specs.declared.fault.CommandFault.TheVariants.{OutOfMemory, CannotWriteFile, CannotWrite, ReportLeft}
use Rattle.bf_command_fault.specs.declared.status.Status.{Status}
use Rattle.bf_command_fault.specs.Refusal.{Leaves, line_of, status_of}
use Rattle.bf_command_fault.specs.Status.{code_of}
use Rattle.bf_commands.specs.Programs.{Hearing, Losing}
use Rattle.bf_views.specs.declared.canvas.Canvas.{Canvas}
use Rattle.bf_views.specs.GridFaults.{IsGridFault}
use Rattle.bf_views.specs.Json.{IsLoneFault}
use Rattle.bf_views.specs.PageFaults.{IsPageFault}
use Rattle.bf_views.specs.ExplainFaults.{IsExplainFault}
use Rattle.bf_program.specs.Texts.{IsDeviceFault}
use Rattle.bf_disk.specs.Files.{Files}
use Rattle.bf_backfills.specs.Commands.{Machine}
use Rattle.bf_backfills.specs.CommandFaults.{IsCheckFault, IsClearFault, IsClearPlanFault, IsDryFault, IsListFault, IsRunFault, IsSingleFault}
use Rattle.bf_input.specs.Overwriting.{Leads, MayLead}
use Rattle.bf_command_line.specs.Naming.{logs_of}
use Rattle.bf_program.specs.Commands.{IsAnswer, Outputs, SparesBy, out_of}

-- ---- why there is no answer

-- why a command was refused, or what fault came
abbrev pub IsFault : Losing → Files → Machine → Asked → CommandFault → Type 0
IsFault may_lose files machine (Check asked) fault = IsCheckFault files asked.graph fault
IsFault may_lose files machine (Intervals asked) fault = IsListFault files asked fault
IsFault may_lose files machine (Single asked) fault = IsSingleFault files asked fault
IsFault may_lose files machine (Dry asked) fault = IsDryFault files asked fault
IsFault may_lose files machine (Run asked) fault = IsRunFault may_lose files machine asked fault
IsFault may_lose files machine (Clear asked) fault = IsClearFault may_lose files machine asked fault
IsFault may_lose files machine (Keep asked) fault = IsClearFault may_lose files machine asked fault
IsFault may_lose files machine (ClearPlan asked) fault = IsClearPlanFault files asked fault
IsFault may_lose files machine (Show asked) fault = IsGridFault files asked fault
IsFault may_lose files machine (ShowJson path) fault = IsLoneFault files (string_bytes path) fault
IsFault may_lose files machine (Page asked) fault = IsPageFault files asked fault
IsFault may_lose files machine (Explain asked) fault = IsExplainFault files asked fault
IsFault may_lose files machine (Answers path) fault = IsLoneFault files (string_bytes path) fault
IsFault may_lose files machine (Schema format) fault = IsDeviceFault fault
IsFault may_lose files machine (Completions shell) fault = IsDeviceFault fault

-- the fault is the command's own where its report goes to standard output; and where it goes to a file, its device isn't told of, but that the path's file
-- can't be replaced, by a report that is lost or left, and then a call of the folder or of the new file has failed, or its folder of logs may be there;
-- or so it is with the journal's
abbrev pub IsFaultBy : Leads → Option (List ℕ) → Type 0 → Losing → Files → Machine → Asked
    → CommandFault → Type 0
IsFaultBy leads None HasFailed may_lose files machine asked fault =
    IsFault may_lose files machine asked fault
IsFaultBy leads (Some path) HasFailed may_lose files machine asked (CannotWriteFile p) =
    ((p ≡ path) × (HasFailed ⊎ MayLead leads.same (logs_of asked) path))
    ⊎ IsFault may_lose files machine asked (CannotWriteFile p)
IsFaultBy leads (Some path) HasFailed may_lose files machine asked (ReportLeft p name) =
    (p ≡ path) × HasFailed
IsFaultBy leads (Some path) HasFailed may_lose files machine asked (CannotWrite n) = ⊥
IsFaultBy leads (Some path) HasFailed may_lose files machine asked OutOfMemory = Unit {0}
IsFaultBy leads (Some path) HasFailed may_lose files machine asked fault =
    IsFault may_lose files machine asked fault

-- all of the text that was due stands in the file that the fault names as left, and no other file is left
abbrev pub LeavesFiled : (List ℕ → Type 0) → Option (List Placed) → Option (List Placed)
    → CommandFault → Type 0
LeavesFiled IsDue before after (ReportLeft path name) =
    (text : List ℕ) × IsDue text × HasLeft before after name text
LeavesFiled IsDue before after fault = after ≡ before

-- what a fault leaves of the text that was due; at the path of a file nothing, so that it holds what it held
abbrev pub LeavesBy : Option (List ℕ) → Type 0 → (List ℕ → Type 0) → Outputs → Outputs
    → CommandFault → Type 0
LeavesBy None Halted IsDue before after fault =
    Leaves Halted IsDue before.written after.written fault × (after.placed ≡ before.placed)
    × (after.left ≡ before.left)
LeavesBy (Some path) Halted IsDue before after fault = (after.written ≡ before.written)
    × (after.placed ≡ before.placed) × LeavesFiled IsDue before.left after.left fault

-- the fault is one of the line that was found, and this is what it leaves
pub record IsFaulted (may_hear : Hearing) (may_lose : Losing) (canvas : Canvas) (files : Files)
    (machine : Machine) (leads : Leads)
    (matched : Option (Text × List Row)) (Halted HasFailed : Type 0) (before after : Outputs)
    (fault : CommandFault) : Type 0 where
  pub line : CommandLine
  pub asks : IsLineBy matched line
  pub spares : SparesBy leads (out_of line) line.command
  pub is_fault : IsFaultBy leads (out_of line) HasFailed may_lose files machine line.command fault
  pub left : LeavesBy (out_of line) Halted (λ text. (status : Status)
      × IsAnswer may_hear canvas files machine line.command text status) before after fault

-- the fault is one of the line that was found, or memory was wanting before anything was written
abbrev pub MayBeFaulted : Hearing → Losing → Canvas → Files → Machine → Leads
    → Option (Text × List Row) → Type 0 → Type 0 → Outputs → Outputs → CommandFault → Type 0
MayBeFaulted may_hear may_lose canvas files machine leads matched Halted HasFailed before after
    OutOfMemory = after ≡ before
MayBeFaulted may_hear may_lose canvas files machine leads matched Halted HasFailed before after
    fault = IsFaulted may_hear may_lose canvas files machine leads matched Halted HasFailed
    before after fault

-- ---- what is told on standard error

-- the whole line went out, or just the first bytes of it before the device halted
abbrev pub IsTold : Type 0 → Option (List ℕ) → Option (List ℕ) → List ℕ → Type 0
IsTold Halted before after line =
    (after ≡ sent before line) ⊎ (Halted × (n : ℕ) × (n ≤ length line)
    × (after ≡ sent before (take n line)))

-- a fault is told, and that is its exit status
pub record Tells (Halted : Type 0) (before after : Option (List ℕ)) (fault : CommandFault)
    (code : ℕ) : Type 0 where
  pub told : IsTold Halted before after (line_of fault)
  pub code_is : code ≡ code_of (status_of fault)

-- the fault is told, or that there is no memory to tell it
abbrev pub MayTell : Type 0 → Option (List ℕ) → Option (List ℕ) → CommandFault → ℕ → Type 0
MayTell Halted before after fault code =
    Tells Halted before after fault code ⊎ Tells Halted before after OutOfMemory code
