use Rattle.std.proofs.Common.{◌≡◌, ◌++◌}
use Rattle.serde_json.specs.View.{members_view}
use Rattle.bf_findings.specs.Listed.{pools_of}
use Rattle.bf_findings.proofs.places.add_pool_names.Given as goal

abbrev pub invariant-loop-name : goal.invariant-loop-name
invariant-loop-name l = l.places.items ++ pools_of (members_view l.name-iterator) ≡ l.fn.places.items ++ pools_of (members_view l.pools.entries)
