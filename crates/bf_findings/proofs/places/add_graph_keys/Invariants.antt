use Rattle.std.proofs.Common.{◌≡◌, ◌++◌, map, drop}
use Rattle.bf_read.specs.Keys.{graph_keys}
use Rattle.bf_findings.specs.declared.place.DocumentPlace.TheVariants as place
use Rattle.bf_findings.specs.Listed.{graph_key_places}
use Rattle.bf_findings.proofs.places.add_graph_keys.Given as goal

abbrev pub invariant-loop-key : goal.invariant-loop-key
invariant-loop-key l = l.places.items ++ map place.Key (drop l.key-index graph_keys) ≡ l.fn.places.items ++ graph_key_places
