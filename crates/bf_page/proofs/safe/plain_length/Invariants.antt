use Rattle.std.proofs.Common.{◌≡◌, take}
use Rattle.bf_page.specs.Safe.{safe}
use Rattle.bf_page.proofs.safe.plain_length.Given as goal

abbrev pub invariant-loop-index : goal.invariant-loop-index
invariant-loop-index l = safe (take l.index l.text) ≡ take l.index l.text
