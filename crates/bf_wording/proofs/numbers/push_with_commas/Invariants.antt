use Rattle.std.proofs.Common.{◌≡◌, ◌++◌, drop, string_bytes}
use Rattle.bf_wording.specs.Numbers.{with_commas}
use Rattle.bf_wording.proofs.numbers.push_with_commas.Given as goal

abbrev pub invariant-loop-index : goal.invariant-loop-index
invariant-loop-index l = string_bytes l.text ++ with_commas (drop l.index l.digits) ≡ string_bytes l.fn.text ++ with_commas l.digits
