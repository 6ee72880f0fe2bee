use Rattle.std.proofs.Common.{◌≡◌, take}
use Rattle.bf_reason.proofs.settled.settled_tasks.Given as goal

abbrev pub invariant-loop-told : goal.invariant-loop-told
invariant-loop-told l = l.settled.items ≡ take l.told-index l.tasks
