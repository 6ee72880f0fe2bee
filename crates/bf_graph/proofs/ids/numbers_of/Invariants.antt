use Rattle.std.proofs.Common.{ℕ, List}
use Rattle.std.specs.BTreeMap.{get_by_text}
use Rattle.bf_graph.specs.Shape.{texts}
use Rattle.bf_graph.proofs.IdLemmas.{IsTold}
use Rattle.bf_graph.proofs.ids.numbers_of.Given as goal

abbrev pub invariant-loop-number : goal.invariant-loop-number
invariant-loop-number l = (q : List ℕ) → IsTold (texts l.ids) q l.number (get_by_text l.numbers q)
