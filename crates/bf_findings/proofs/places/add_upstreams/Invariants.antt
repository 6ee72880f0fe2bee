use Rattle.std.proofs.Common.{◌≡◌, ◌++◌, map, drop}
use Rattle.serde_json.specs.View.{view}
use Rattle.bf_findings.specs.Listed.{upstreams}
use Rattle.bf_findings.proofs.places.add_upstreams.Given as goal

abbrev pub invariant-loop-i : goal.invariant-loop-i
invariant-loop-i l = l.places.items ++ upstreams l.n l.i (map view (drop l.i l.items)) ≡ l.fn.places.items ++ upstreams l.n 0 (map view l.items)
