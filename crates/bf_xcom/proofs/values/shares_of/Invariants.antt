use Rattle.std.proofs.Common.{◌≡◌, take}
use Rattle.bf_xcom.proofs.values.shares_of.Given as goal

abbrev pub invariant-loop-pulled : goal.invariant-loop-pulled
invariant-loop-pulled l = l.shares.items ≡ take l.pulled-index l.all
