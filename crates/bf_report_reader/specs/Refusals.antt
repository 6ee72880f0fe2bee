-- Refusals of reports, as they are numbered and printed.
use Rattle.std.specs.Prelude.{ℕ, List, ◌++◌, codes, decimal, Option, Some, None}
use Rattle.bf_report_reader.specs.declared.fault.ReportFault.{ReportFault}
use Rattle.bf_report_reader.specs.declared.fault.ReportFault.TheVariants.{BadLine, TooLong, Truncated, Io, OutOfMemory}

-- the number of the refusal, which a fault of the device and want of memory don't have
abbrev pub refusal_number_of : ReportFault → Option ℕ
refusal_number_of (BadLine line) = Some 30
refusal_number_of (TooLong line) = Some 31
refusal_number_of Truncated = Some 32
refusal_number_of Io = None
refusal_number_of OutOfMemory = None

-- why there is no report, as it is printed
abbrev pub fault_text : ReportFault → List ℕ
fault_text (BadLine line) = codes "bad line: " ++ decimal line
fault_text (TooLong line) = codes "line too long: " ++ decimal line
fault_text Truncated = codes "truncated"
fault_text Io = codes "cannot read"
fault_text OutOfMemory = codes "out of memory"
