use Rattle.std.proofs.Common.{length}
use Rattle.bf_journal.proofs.Passing.{HasRead}
use Rattle.bf_journal.proofs.told.tries_told_in.Given as goal

abbrev pub invariant-loop-line : goal.invariant-loop-line
invariant-loop-line l = HasRead l.plan.dag l.runs l.bytes l.rest l.tries.items

abbrev pub decreases-loop-line : goal.decreases-loop-line
decreases-loop-line l = length l.rest
