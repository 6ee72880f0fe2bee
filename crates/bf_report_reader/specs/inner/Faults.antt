-- Why bytes are no report, and at which line.
use Rattle.std.specs.Prelude.{◌≡◌, ◌≤◌, ◌+◌, ℕ, List, [], ◌∷◌, ◌++◌, length, Option, IfSome}
use Rattle.std.specs.Io.KnownBytes.{Consumes}
use Rattle.bf_report_reader.specs.declared.fault.ReportFault.{ReportFault}
use Rattle.bf_report_reader.specs.declared.line.LineEnd.{LineEnd}
use Rattle.bf_report_reader.specs.Faults.{IsInLine, longest_line}

-- ---- of one line

-- what came off a device by a line, and what followed it
abbrev pub Came : LineEnd → Option (List ℕ) → Option (List ℕ) → List ℕ → Type 0
Came LineEnd.LineFeed old new text =
    Consumes old new (text ++ 10 ∷ []) × (length text ≤ longest_line text)
Came LineEnd.Nothing old new text =
    IfSome old (λ bytes. bytes ≡ text) × (length text ≤ longest_line text)
Came LineEnd.TooMuch old new text = Consumes old new text × (length text ≡ longest_line text + 1)

-- why no line of that number came off these bytes
abbrev pub StopsAt : ReportFault → ℕ → List ℕ → Type 0
StopsAt (ReportFault.BadLine said) number bytes = ⊥
StopsAt (ReportFault.TooLong said) number bytes =
    (said ≡ number) × ((piece : List ℕ) × (rest : List ℕ) × (bytes ≡ piece ++ rest) × IsInLine piece
    × (length piece ≡ longest_line piece + 1))
StopsAt ReportFault.Truncated number bytes = IsInLine bytes × (length bytes ≤ longest_line bytes)
StopsAt ReportFault.Io number bytes = Unit {0}
StopsAt ReportFault.OutOfMemory number bytes = Unit {0}
