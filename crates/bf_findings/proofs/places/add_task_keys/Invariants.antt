use Rattle.std.proofs.Common.{◌≡◌, ◌++◌, map, drop}
use Rattle.bf_read.specs.Keys.{task_keys}
use Rattle.bf_findings.specs.declared.place.DocumentPlace.TheVariants as place
use Rattle.bf_findings.specs.Listed.{task_key_places}
use Rattle.bf_findings.proofs.places.add_task_keys.Given as goal

abbrev pub invariant-loop-key : goal.invariant-loop-key
invariant-loop-key l = l.places.items ++ map (place.TaskKey l.n) (drop l.key-index task_keys) ≡ l.fn.places.items ++ task_key_places l.n
