use Rattle.std.proofs.Common.{◌≡◌, take}
use Rattle.bf_findings.proofs.nearest.chars_of_ascii.Given as goal

abbrev pub invariant-loop-byte : goal.invariant-loop-byte
invariant-loop-byte l = l.all.items ≡ take l.byte-index l.text
