use Rattle.std.proofs.Common.{◌≡◌, ◌++◌, map, string_bytes, take}
use Rattle.bf_core.specs.Terms.{TaskResult}
use Rattle.bf_reason.specs.Letters.{ended_letter_of}
use Rattle.bf_cells.proofs.cells.push_instance_letters.Given as goal

abbrev pub invariant-loop-ended : goal.invariant-loop-ended
invariant-loop-ended l = string_bytes l.text ≡ string_bytes l.fn.text ++ map (λ (ended : TaskResult). ended_letter_of ended.outcome ended.tries) (take l.ended-index l.results)
