use Rattle.std.proofs.Common.{◌≡◌, map, take}
use Rattle.bf_journal.specs.Records.{optional_value_of}
use Rattle.bf_journal.proofs.field.pulled_values_of.Given as goal

abbrev pub invariant-loop-value : goal.invariant-loop-value
invariant-loop-value l = take l.value-index l.values ≡ map optional_value_of l.all.items
