use Rattle.std.proofs.Common.{◌≡◌, drop}
use Rattle.bf_explain.specs.Variables.{stands_in}
use Rattle.bf_explain.proofs.variables.stands_in.Given as goal

abbrev pub invariant-loop-start : goal.invariant-loop-start
invariant-loop-start l = stands_in l.name l.text ≡ stands_in l.name (drop l.start l.text)
