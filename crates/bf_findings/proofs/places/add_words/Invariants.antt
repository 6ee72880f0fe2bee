use Rattle.std.proofs.Common.{◌≡◌, ◌++◌, map, drop}
use Rattle.serde_json.specs.View.{view}
use Rattle.bf_findings.specs.Listed.{words}
use Rattle.bf_findings.proofs.places.add_words.Given as goal

abbrev pub invariant-loop-i : goal.invariant-loop-i
invariant-loop-i l = l.places.items ++ words l.n l.i (map view (drop l.i l.items)) ≡ l.fn.places.items ++ words l.n 0 (map view l.items)
