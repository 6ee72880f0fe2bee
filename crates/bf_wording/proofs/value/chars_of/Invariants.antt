use Rattle.std.proofs.Common.{◌≡◌}
use Rattle.bf_wording.proofs.value.chars_of.Given as goal

abbrev pub invariant-loop-c : goal.invariant-loop-c
invariant-loop-c l = l.all.items ≡ l.yielded
