use Rattle.std.proofs.Common.{◌≡◌, ◌++◌, string_bytes}
use Rattle.std.specs.List.{flat_map, range_with_len}
use Rattle.bf_explain.specs.Indexes.{index_text}
use Rattle.bf_explain.proofs.indexes.push_indexes.Given as goal

abbrev pub invariant-loop-index : goal.invariant-loop-index
invariant-loop-index l = string_bytes l.text ≡ string_bytes l.fn.text ++ flat_map (index_text l.state l.results) (range_with_len 0 l.index)
