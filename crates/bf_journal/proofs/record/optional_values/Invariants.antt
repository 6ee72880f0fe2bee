use Rattle.std.proofs.Common.{◌≡◌, map, take}
use Rattle.bf_journal.specs.Records.{optional_value_of}
use Rattle.bf_journal.proofs.record.optional_values.Given as goal

abbrev pub invariant-loop-value : goal.invariant-loop-value
invariant-loop-value l = l.all.items ≡ map optional_value_of (take l.value-index l.values)
