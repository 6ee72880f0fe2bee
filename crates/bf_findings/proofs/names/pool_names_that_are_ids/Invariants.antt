use Rattle.std.proofs.Common.{◌≡◌, ◌++◌, map}
use Rattle.serde_json.specs.View.{members_view}
use Rattle.bf_findings.specs.Names.{pool_names_that_are_ids_of}
use Rattle.bf_findings.proofs.names.pool_names_that_are_ids.Given as goal

abbrev pub invariant-loop-name : goal.invariant-loop-name
invariant-loop-name l = map (λ s. s.now) l.names.items ++ pool_names_that_are_ids_of (members_view l.name-iterator) ≡ pool_names_that_are_ids_of (members_view l.pools.entries)
