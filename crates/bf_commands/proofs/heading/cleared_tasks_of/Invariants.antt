use Rattle.std.proofs.Common.{take}
use Rattle.bf_commands.specs.Journaled.{TellsOf}
use Rattle.bf_commands.proofs.heading.cleared_tasks_of.Given as goal

abbrev pub invariant-loop-place : goal.invariant-loop-place
invariant-loop-place l = TellsOf l.plan.dag l.runs (take l.place-index l.places) l.cleared.items
