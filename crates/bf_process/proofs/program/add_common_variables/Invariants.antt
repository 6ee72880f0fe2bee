use Rattle.std.proofs.Common.{take}
use Rattle.bf_process.specs.inner.Commands.{IsSaidAfter, IsSameElse}
use Rattle.bf_process.specs.Environment.{pairs_of, variables_of}
use Rattle.bf_process.proofs.program.add_common_variables.Given as goal

abbrev pub invariant-loop-variable : goal.invariant-loop-variable
invariant-loop-variable l = IsSaidAfter l.fn.command l.command (pairs_of l.context l.clock.at.nanosecond (take l.variable-index variables_of)) × IsSameElse l.fn.command l.command
