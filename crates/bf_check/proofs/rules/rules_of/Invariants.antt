use Rattle.std.proofs.Common.{◌≡◌, map, take}
use Rattle.bf_rule.specs.Names.{rule_named}
use Rattle.bf_check.proofs.rules.rules_of.Given as goal

abbrev pub invariant-loop-task : goal.invariant-loop-task
invariant-loop-task l = l.found.items ≡ map (λ task. rule_named task.rule) (take l.task-index l.tasks)
