use Rattle.std.proofs.Common.{◌≡◌, [], length, All}
use Rattle.bf_graph.proofs.lookups.empty_lists.Given as goal

abbrev pub invariant-loop-made : goal.invariant-loop-made
invariant-loop-made g l = record { len : length l.made.items ≡ l._made; empty : All (λ list. list.items ≡ []) l.made.items }
