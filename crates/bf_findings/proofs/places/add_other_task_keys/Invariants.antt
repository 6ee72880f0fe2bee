use Rattle.std.proofs.Common.{◌≡◌, ◌++◌}
use Rattle.serde_json.specs.View.{members_view}
use Rattle.bf_findings.specs.Listed.{other_task_keys}
use Rattle.bf_findings.proofs.places.add_other_task_keys.Given as goal

abbrev pub invariant-loop-key : goal.invariant-loop-key
invariant-loop-key l = l.places.items ++ other_task_keys l.n (members_view l.key-iterator) ≡ l.fn.places.items ++ other_task_keys l.n (members_view l.task.entries)
