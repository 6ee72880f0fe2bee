use Rattle.std.proofs.Common.{◌≡◌, [], map, take, slice_index_or}
use Rattle.bf_check.specs.Checking.{ids_of}
use Rattle.bf_check.proofs.edges.ids_at.Given as goal

abbrev pub invariant-loop-number : goal.invariant-loop-number
invariant-loop-number l = l.names.items ≡ map (λ t. slice_index_or (ids_of l.tasks) t []) (take l.number-index l.numbers)
