-- Why bytes are no report, and at which line.
use Rattle.std.specs.Prelude.{◌≡◌, ◌≤◌, ◌+◌, ◌==◌, ◌⊎◌, ℕ, false, List, [], ◌∷◌, ◌++◌, length, take, codes, if◌then◌else◌}
use Rattle.std.specs.List.{list_any, count_by}
use Rattle.std.specs.Str.{bytes_eq}
use Rattle.bf_report.specs.declared.report.Report.{Report}
use Rattle.bf_report.specs.Report.{report_text}
use Rattle.bf_report_reader.specs.declared.fault.ReportFault.{ReportFault}
use Rattle.bf_report_reader.specs.Rules.{IsShownReport}

-- text within one line
abbrev pub IsInLine : List ℕ → Type 0
IsInLine text = list_any (λ byte. byte == 10) text ≡ false

-- how many bytes the line of a pull may have that begins so, or any other line
abbrev pub longest_line : List ℕ → ℕ
longest_line line = if bytes_eq (take 6 line) (codes "@pull ") then 68_000_000 else 66_000

-- how many lines end in a text
abbrev pub lines_in : List ℕ → ℕ
lines_in text = count_by (λ byte. byte == 10) text

-- nothing, or text that ends in a line feed
abbrev pub AreLines : List ℕ → Type 0
AreLines text = (text ≡ []) ⊎ ((front : List ℕ) × (text ≡ front ++ 10 ∷ []))

-- the bytes are the text of a report by the rules
pub record IsReportText (bytes : List ℕ) : Type 0 where
  pub report : Report
  pub shown : IsShownReport report
  pub text_is : report_text report ≡ bytes

-- a report by the rules begins with these bytes
pub record Begins (bytes : List ℕ) : Type 0 where
  pub report : Report
  pub more : List ℕ
  pub shown : IsShownReport report
  pub text_is : report_text report ≡ bytes ++ more

-- a report begins with these lines, and goes on behind them
pub record IsOpening (bytes : List ℕ) : Type 0 where
  pub lines : AreLines bytes
  pub begins : Begins bytes
  pub unfinished : ¬ (IsReportText bytes)

-- the bytes end before the line feed of the next line, which isn't too long so far
pub record IsCut (bytes : List ℕ) : Type 0 where
  pub opening : List ℕ
  pub piece : List ℕ
  pub opens : IsOpening opening
  pub bytes_are : bytes ≡ opening ++ piece
  pub in_line : IsInLine piece
  pub short : length piece ≤ longest_line piece

-- the line of that number has more bytes than a line may have, and stands in no report
pub record HasLongLine (bytes : List ℕ) (number : ℕ) : Type 0 where
  pub opening : List ℕ
  pub piece : List ℕ
  pub rest : List ℕ
  pub opens : IsOpening opening
  pub bytes_are : bytes ≡ opening ++ (piece ++ rest)
  pub in_line : IsInLine piece
  pub long : length piece ≡ longest_line piece + 1
  pub bad : ¬ (Begins (opening ++ piece))
  pub place : number ≡ lines_in opening + 1

-- a report begins with the lines before the line of that number, which isn't too long, and none with that line too
pub record HasLine (bytes : List ℕ) (number : ℕ) : Type 0 where
  pub opening : List ℕ
  pub text : List ℕ
  pub rest : List ℕ
  pub opens : IsOpening opening
  pub bytes_are : bytes ≡ opening ++ ((text ++ 10 ∷ []) ++ rest)
  pub in_line : IsInLine text
  pub short : length text ≤ longest_line text
  pub bad : ¬ (Begins (opening ++ (text ++ 10 ∷ [])))
  pub place : number ≡ lines_in opening + 1

-- more stands behind a report, in the line of that number
pub record HasMore (bytes : List ℕ) (number : ℕ) : Type 0 where
  pub report : Report
  pub first : ℕ
  pub rest : List ℕ
  pub shown : IsShownReport report
  pub bytes_are : bytes ≡ report_text report ++ first ∷ rest
  pub place : number ≡ lines_in (report_text report) + 1

-- the device failed, or memory was wanting
abbrev pub IsFromOutside : ReportFault → Type 0
IsFromOutside fault = (fault ≡ ReportFault.Io) ⊎ (fault ≡ ReportFault.OutOfMemory)

-- what the fault says of the bytes
abbrev pub Tells : List ℕ → ReportFault → Type 0
Tells bytes (ReportFault.BadLine number) = HasLine bytes number ⊎ HasMore bytes number
Tells bytes (ReportFault.TooLong number) = HasLongLine bytes number
Tells bytes ReportFault.Truncated = IsCut bytes
Tells bytes ReportFault.Io = Unit {0}
Tells bytes ReportFault.OutOfMemory = Unit {0}
