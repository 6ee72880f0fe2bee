-- Why there are no runs, as it is numbered and printed.
use Rattle.std.specs.Prelude.{ℕ, List, Option, Some, codes}
use Rattle.bf_interval.specs.Intervals.{refusal_number_of, fault_text}
use Rattle.bf_command_fault.specs.declared.range.RangeFault.{RangeFault}
use Rattle.bf_command_fault.specs.declared.range.RangeFault.TheVariants.{NoRuns, Unlisted}

abbrev pub range_refusal_number_of : RangeFault → Option ℕ
range_refusal_number_of (Unlisted fault) = refusal_number_of fault
range_refusal_number_of NoRuns = Some 29

abbrev pub range_words : RangeFault → List ℕ
range_words (Unlisted fault) = fault_text fault
range_words NoRuns = codes "no runs"
