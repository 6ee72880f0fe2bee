use Rattle.std.proofs.Common.{◌≡◌, Some, take}
use Rattle.bf_check.specs.inner.Looks.{numbers_in}
use Rattle.bf_check.proofs.edges.numbers_of.Given as goal

abbrev pub invariant-loop-name : goal.invariant-loop-name
invariant-loop-name l = numbers_in l.ids (take l.name-index l.names) ≡ Some l.numbers.items
