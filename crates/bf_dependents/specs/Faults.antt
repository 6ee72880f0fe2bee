-- Refusals.
use Rattle.std.specs.Prelude.{ℕ, List, codes, Option, Some, None}
use Rattle.bf_dependents.specs.declared.fault.ClearFault.{ClearFault}
use Rattle.bf_dependents.specs.declared.fault.ClearFault.TheVariants.{UnknownTask, UnknownRun, ReportMismatch, OutOfMemory}

-- the number of the refusal, which want of memory doesn't have
abbrev pub refusal_number_of : ClearFault → Option ℕ
refusal_number_of UnknownTask = Some 40
refusal_number_of UnknownRun = Some 41
refusal_number_of ReportMismatch = Some 42
refusal_number_of OutOfMemory = None

-- why nothing is cleared, as it is printed
abbrev pub fault_text : ClearFault → List ℕ
fault_text UnknownTask = codes "unknown task"
fault_text UnknownRun = codes "unknown run"
fault_text ReportMismatch = codes "report mismatch"
fault_text OutOfMemory = codes "out of memory"
