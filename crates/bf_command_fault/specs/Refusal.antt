-- Why a command gave no answer, as it is numbered, printed and told by the exit status.
use Rattle.std.specs.Prelude.{◌≡◌, ◌≤◌, ℕ, List, ◌++◌, length, take, Option, Some, None, codes, decimal}
use Rattle.std.specs.Fmt.{signed_decimal}
use Rattle.bf_read.specs.declared.fault.ReadFault.{ReadFault}
use Rattle.bf_read.specs.declared.fault.ReadFault.TheVariants as read
use Rattle.bf_read.specs.Faults as graph_file
use Rattle.bf_check.specs.declared.fault.CheckFault.{CheckFault}
use Rattle.bf_check.specs.declared.fault.CheckFault.TheVariants as check
use Rattle.bf_check.specs.Refusals as graph
use Rattle.bf_interval.specs.declared.fault.IntervalFault.{IntervalFault}
use Rattle.bf_interval.specs.declared.fault.IntervalFault.TheVariants as interval
use Rattle.bf_table.specs.declared.table.TableFault.{TableFault}
use Rattle.bf_table.specs.declared.table.TableFault.TheVariants as table
use Rattle.bf_table.specs.Tables as answers
use Rattle.bf_dependents.specs.declared.fault.ClearFault.{ClearFault}
use Rattle.bf_dependents.specs.declared.fault.ClearFault.TheVariants as clear
use Rattle.bf_dependents.specs.Faults as clearing
use Rattle.bf_journal.specs.declared.fault.JournalFault.{JournalFault}
use Rattle.bf_journal.specs.declared.fault.JournalFault.TheVariants as journal
use Rattle.bf_journal.specs.Found as journaling
use Rattle.bf_report_reader.specs.declared.fault.ReportFault.{ReportFault}
use Rattle.bf_report_reader.specs.declared.fault.ReportFault.TheVariants as report
use Rattle.bf_report_reader.specs.Refusals as reading
use Rattle.bf_seeds.specs.declared.fault.SeedsFault.{SeedsFault}
use Rattle.bf_seeds.specs.declared.fault.SeedsFault.TheVariants as seeds
use Rattle.bf_seeds.specs.Seeds as seeding
use Rattle.bf_device.specs.declared.sending.Cause.{Cause}
use Rattle.bf_device.specs.declared.sending.Cause.TheVariants as cause
use Rattle.bf_device.specs.declared.sending.WriteFault.{WriteFault}
use Rattle.bf_device.specs.Device.{sent}
use Rattle.bf_command_fault.specs.declared.fault.CommandFault.{CommandFault}
use Rattle.bf_command_fault.specs.declared.fault.CommandFault.TheVariants.{Read, Check, Table, Range, Report, Journal, Clear, Seeds, JournalInUse, UnknownIndex, BadMoment, OutOfMemory, CannotRead, CannotWriteFile, ReportLeft, CannotWrite, CannotLaunch, Stopped}
use Rattle.bf_command_fault.specs.declared.range.RangeFault.TheVariants.{Unlisted}
use Rattle.bf_command_fault.specs.declared.stop.StopFault.{StopFault}
use Rattle.bf_command_fault.specs.declared.status.Status.{Status}
use Rattle.bf_command_fault.specs.Ranges.{range_refusal_number_of, range_words}

-- ---- numbers and words

-- refusals have numbers, and faults have none
abbrev pub number_of : CommandFault → Option ℕ
number_of (Read fault) = graph_file.refusal_number_of fault
number_of (Check fault) = graph.check_refusal_number_of fault
number_of (Table fault) = answers.refusal_number_of fault
number_of (Range fault) = range_refusal_number_of fault
number_of (Report fault) = reading.refusal_number_of fault
number_of (Journal fault) = journaling.refusal_number_of fault
number_of (Clear fault) = clearing.refusal_number_of fault
number_of (Seeds fault) = seeding.refusal_number_of fault
number_of JournalInUse = Some 44
number_of UnknownIndex = Some 46
number_of BadMoment = Some 28
number_of OutOfMemory = None
number_of (CannotRead path) = None
number_of (CannotWrite sent) = None
number_of (CannotWriteFile path) = None
number_of (ReportLeft path left) = None
number_of (CannotLaunch path) = None
number_of (Stopped fault) = None

-- why a backfill stopped
abbrev pub stop_words : StopFault → List ℕ
stop_words StopFault.CannotStart = codes "cannot start workers"
stop_words (StopFault.GaveUp task index attempt) =
    codes "runner gave up: " ++ (task
    ++ (codes " " ++ (signed_decimal index ++ (codes " " ++ decimal attempt))))
stop_words (StopFault.CannotLog path) = codes "cannot write " ++ path
stop_words StopFault.CannotRecord = codes "cannot write the journal"
stop_words (StopFault.EnoughFailed most) =
    codes "stopped after " ++ (decimal most ++ codes " failed tries")

abbrev pub words_of : CommandFault → List ℕ
words_of (Read fault) = graph_file.fault_text fault
words_of (Check fault) = graph.fault_text fault
words_of (Table fault) = answers.fault_text fault
words_of (Range fault) = range_words fault
words_of (Report fault) = reading.fault_text fault
words_of (Journal fault) = journaling.fault_text fault
words_of (Clear fault) = clearing.fault_text fault
words_of (Seeds fault) = seeding.fault_text fault
words_of JournalInUse = codes "journal in use"
words_of UnknownIndex = codes "unknown index"
words_of BadMoment = codes "bad moment"
words_of OutOfMemory = codes "out of memory"
words_of (CannotRead path) = codes "cannot read " ++ path
words_of (CannotWrite sent) = codes "cannot write"
words_of (CannotWriteFile path) = codes "cannot write " ++ path
words_of (ReportLeft path left) =
    codes "cannot write " ++ (path ++ (codes ": the report is in " ++ left))
words_of (CannotLaunch path) = codes "cannot start " ++ path
words_of (Stopped fault) = stop_words fault

-- the line of a refusal, with its number, or of a fault
abbrev pub line_with : Option ℕ → List ℕ → List ℕ
line_with (Some number) words =
    codes "refused " ++ (decimal number ++ (codes " " ++ (words ++ codes "\n")))
line_with None words = codes "fault: " ++ (words ++ codes "\n")

-- what is printed
abbrev pub line_of : CommandFault → List ℕ
line_of fault = line_with (number_of fault) (words_of fault)

abbrev pub status_with : Option ℕ → Status
status_with (Some number) = Status.Refused
status_with None = Status.Fault

-- how the program ends
abbrev pub status_of : CommandFault → Status
status_of fault = status_with (number_of fault)

-- ---- want of memory is one fault, whatever wanted it

abbrev pub of_read : ReadFault → CommandFault
of_read read.OutOfMemory = OutOfMemory
of_read fault = Read fault

abbrev pub of_check : CheckFault → CommandFault
of_check check.OutOfMemory = OutOfMemory
of_check fault = Check fault

abbrev pub of_table : TableFault → CommandFault
of_table table.OutOfMemory = OutOfMemory
of_table fault = Table fault

abbrev pub of_range : IntervalFault → CommandFault
of_range interval.OutOfMemory = OutOfMemory
of_range fault = Range (Unlisted fault)

abbrev pub of_report : ReportFault → CommandFault
of_report report.OutOfMemory = OutOfMemory
of_report fault = Report fault

abbrev pub of_journal : JournalFault → CommandFault
of_journal journal.OutOfMemory = OutOfMemory
of_journal fault = Journal fault

abbrev pub of_clear : ClearFault → CommandFault
of_clear clear.OutOfMemory = OutOfMemory
of_clear fault = Clear fault

abbrev pub of_seeds : SeedsFault → CommandFault
of_seeds seeds.OutOfMemory = OutOfMemory
of_seeds (seeds.Unknown fault) = of_clear fault
of_seeds fault = Seeds fault

abbrev pub of_cause : Cause → ℕ → CommandFault
of_cause cause.Io sent = CannotWrite sent
of_cause cause.OutOfMemory sent = OutOfMemory

abbrev pub of_write : WriteFault → CommandFault
of_write fault = of_cause fault.cause fault.sent

-- ---- what went out

-- a text that was due, behind what had gone out before
abbrev pub Sends : (List ℕ → Type 0) → Option (List ℕ) → Option (List ℕ) → Type 0
Sends IsDue before after = (text : List ℕ) × IsDue text × (after ≡ sent before text)

-- at a fault: where the text that was due can't be written, the device has halted, and just the first bytes went out; else nothing did
abbrev pub Leaves : Type 0 → (List ℕ → Type 0) → Option (List ℕ) → Option (List ℕ) → CommandFault
    → Type 0
Leaves Halted IsDue before after (CannotWrite n) =
    Halted × (text : List ℕ) × IsDue text × (n ≤ length text) × (after ≡ sent before (take n text))
Leaves Halted IsDue before after fault = after ≡ before
