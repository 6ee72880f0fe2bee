-- What `show --json` comes to, by what the report's file holds.
use Rattle.std.specs.Prelude.{◌≡◌, ℕ, List}
use Rattle.bf_report.specs.declared.report.Report.{Report}
use Rattle.bf_report_reader.specs.Reading.{IsReadAs}
use Rattle.bf_show.specs.JsonLines.{json_lines}
use Rattle.bf_command_fault.specs.declared.fault.CommandFault.{CommandFault}
use Rattle.bf_command_fault.specs.declared.fault.CommandFault.TheVariants.{CannotWrite}
use Rattle.bf_command_fault.specs.declared.status.Status.{Status}
use Rattle.bf_disk.specs.Files.{Files, IsHeld, IsReadable}
use Rattle.bf_input.specs.Inputs.{IsReportFault}

-- the bytes say a report, and the text has its lines
abbrev pub IsJsonOf : List ℕ → List ℕ → Type 0
IsJsonOf held text = (report : Report) × IsReadAs held report × (text ≡ json_lines report)

-- the report can be read, and the text is its lines, whatever the file is told to hold
pub record IsJsonAnswer (files : Files) (path text : List ℕ) (status : Status) : Type 0 where
  pub success : status ≡ Status.Success
  pub readable : IsReadable (files path)
  pub text_is : (held : List ℕ) → IsHeld (files path) held → IsJsonOf held text

-- of a command over a report alone the fault is that of the report's file or of the report; or memory or the device is wanting
abbrev pub IsLoneFault : Files → List ℕ → CommandFault → Type 0
IsLoneFault files path (CannotWrite n) = IsReadable (files path)
IsLoneFault files path fault = IsReportFault path (files path) fault
