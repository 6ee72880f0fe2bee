use Rattle.std.proofs.Common.{◌≡◌, ◌++◌}
use Rattle.serde_json.specs.View.{members_view}
use Rattle.bf_findings.specs.Listed.{other_keys}
use Rattle.bf_findings.proofs.places.add_other_keys.Given as goal

abbrev pub invariant-loop-key : goal.invariant-loop-key
invariant-loop-key l = l.places.items ++ other_keys (members_view l.key-iterator) ≡ l.fn.places.items ++ other_keys (members_view l.graph.entries)
