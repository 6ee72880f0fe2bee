-- What is read of the files that a line names.
use Rattle.std.specs.Prelude.{ℕ, List, Option}
use Rattle.bf_disk.specs.Files.{IsHeld, IsReadable}
use Rattle.bf_disk.specs.declared.source.SourceFault.{SourceFault}
use Rattle.bf_disk.specs.declared.source.SourceFault.TheVariants as source
use Rattle.bf_report.specs.declared.report.Report.{Report}
use Rattle.bf_report_reader.specs.Reading.{IsReadAs}
use Rattle.bf_command_fault.specs.declared.fault.CommandFault.{CommandFault}
use Rattle.bf_command_fault.specs.declared.fault.CommandFault.TheVariants.{OutOfMemory, CannotRead}

-- ---- what is read of them

-- this report is read of the file
pub record IsReadOf (file : Option (Option (List ℕ))) (report : Report) : Type 0 where
  pub readable : IsReadable file
  pub says : (held : List ℕ) → IsHeld file held → IsReadAs held report

-- ---- why nothing is

-- why there is no answer where a path's file isn't there
abbrev pub of_source : List ℕ → SourceFault → CommandFault
of_source path source.CannotRead = CannotRead path
of_source path source.OutOfMemory = OutOfMemory
