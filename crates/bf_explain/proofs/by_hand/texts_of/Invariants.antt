use Rattle.std.proofs.Common.{◌≡◌}
use Rattle.bf_graph.specs.Shape.{texts}
use Rattle.bf_explain.proofs.by_hand.texts_of.Given as goal

abbrev pub invariant-loop-word : goal.invariant-loop-word
invariant-loop-word l = l.all.items ≡ texts l.yielded
