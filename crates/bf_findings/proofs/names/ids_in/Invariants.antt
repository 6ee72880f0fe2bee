use Rattle.std.proofs.Common.{◌≡◌, ◌++◌, map, drop}
use Rattle.std.specs.List.{filter_map}
use Rattle.bf_findings.proofs.Lists.{id_of}
use Rattle.bf_findings.proofs.names.ids_in.Given as goal

-- the ids so far, and then those of the rest, are all
abbrev pub invariant-loop-task : goal.invariant-loop-task
invariant-loop-task l = map (λ s. s.now) l.found.items ++ filter_map id_of (drop l.task-index l.task-items) ≡ filter_map id_of l.task-items
