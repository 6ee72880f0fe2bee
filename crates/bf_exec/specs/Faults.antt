-- Which halts and faults may be.
use Rattle.bf_core.specs.Terms.{Given, JobName}
use Rattle.bf_core.specs.Answered.{MayFault}
use Rattle.bf_core.specs.declared.fault.BackfillFault.{BackfillFault}
use Rattle.bf_exec.specs.declared.turn_fault.TurnFault.{TurnFault}

-- memory may be wanting, the try that is named given up, or a stranger's answer gathered
abbrev pub MayHalt : (JobName → Given → Type 0) → TurnFault → Type 0
MayHalt may_give_up TurnFault.OutOfMemory = Unit {0}
MayHalt may_give_up (TurnFault.Runner n) = (given : Given) × may_give_up n given
MayHalt may_give_up TurnFault.Stranger = Unit {0}

-- memory may be wanting, the try that is named given up, or a worker not started
abbrev pub MayFail : (JobName → Given → Type 0) → BackfillFault → Type 0
MayFail may_give_up BackfillFault.Start = Unit {0}
MayFail may_give_up fault = MayFault may_give_up fault
