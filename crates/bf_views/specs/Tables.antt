-- What `answers` comes to, by what the report's file holds.
use Rattle.std.specs.Prelude.{◌≡◌, ℕ, List}
use Rattle.bf_report.specs.declared.report.Report.{Report}
use Rattle.bf_report_reader.specs.Reading.{IsReadAs}
use Rattle.bf_answers.specs.TableText.{answers_text}
use Rattle.bf_command_fault.specs.declared.status.Status.{Status}
use Rattle.bf_disk.specs.Files.{Files, IsHeld, IsReadable}

-- the bytes say a report, and the text is the table that answers as it tells
abbrev pub IsTableOf : List ℕ → List ℕ → Type 0
IsTableOf held text = (report : Report) × IsReadAs held report × (text ≡ answers_text report)

-- the report can be read, and the text is its table, whatever the file is told to hold
pub record IsTableAnswer (files : Files) (path text : List ℕ) (status : Status) : Type 0 where
  pub success : status ≡ Status.Success
  pub readable : IsReadable (files path)
  pub text_is : (held : List ℕ) → IsHeld (files path) held → IsTableOf held text
