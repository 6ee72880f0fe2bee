use Rattle.std.proofs.Common.{◌≡◌, ◌≤◌, ◌+◌, length, drop, option_map}
use Rattle.std.specs.BTreeMap as tree
use Rattle.bf_table.specs.declared.table_index.Pattern.{Pattern}
use Rattle.bf_table.specs.TableIndex.{first_of_key, pattern_cmp}
use Rattle.bf_table.proofs.table_index.firsts_of.Given as goal

abbrev pub decreases-loop-number : goal.decreases-loop-number
decreases-loop-number l = l.number

-- each pattern has the first of the entries from this number on
abbrev pub invariant-loop-number : goal.invariant-loop-number
invariant-loop-number l =
    (l.number ≤ length l.entries) ×
    ((key : Pattern) → tree.get pattern_cmp l.firsts key ≡ option_map (λ n. l.number + n) (first_of_key l.graph.ids (drop l.number l.entries) key))
