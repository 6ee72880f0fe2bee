use Rattle.bf_graph.specs.Lookups.{IsRisingListOf}
use Rattle.bf_graph.proofs.LookupLemmas.{IsMarkedBelow}
use Rattle.bf_graph.proofs.lookups.marked_places.Given as goal

abbrev pub invariant-loop-t : goal.invariant-loop-t
invariant-loop-t l = IsRisingListOf (IsMarkedBelow l.marks l.t) l.places.items
