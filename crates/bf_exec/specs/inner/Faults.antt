-- The fault that a halt comes to.
use Rattle.std.specs.Prelude.{◌≡◌}
use Rattle.bf_core.specs.declared.fault.BackfillFault.{BackfillFault}
use Rattle.bf_exec.specs.declared.turn_fault.TurnFault.{TurnFault}

-- the fault that a halt is; none is a stranger's
abbrev pub IsFaultOf : TurnFault → BackfillFault → Type 0
IsFaultOf TurnFault.OutOfMemory fault = fault ≡ BackfillFault.OutOfMemory
IsFaultOf (TurnFault.Runner n) fault = fault ≡ BackfillFault.Runner n
IsFaultOf TurnFault.Stranger fault = ⊥
