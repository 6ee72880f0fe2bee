use Rattle.std.proofs.Common.{ap, ◌∙◌}
use Rattle.bf_read.specs.declared.draft.TaskDraft.{TaskDraft}
use Rattle.bf_rule.specs.Names.{rule_named}
use Rattle.bf_check.proofs.ListLemmas.{map_more}
use Rattle.bf_check.proofs.rules.rules_of.Goals as goal

pub loop-task-preserved : goal.loop-task-preserved
loop-task-preserved c =
    c.in_ok-push.ensures.items
    ∙ map_more (λ (task : TaskDraft). rule_named task.rule) c.args.tasks.now c.loop-task.task-index c.task-item.result c.loop-task.found.items c.named.result c.loop-task-test.true c.loop-task.invariant
    (c.named.ensures ∙ ap rule_named c.as_str.ensures ∙ ap (λ (task : TaskDraft). rule_named task.rule) c.task-item.is)
