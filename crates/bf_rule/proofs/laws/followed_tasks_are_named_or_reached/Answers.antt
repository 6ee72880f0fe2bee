use Rattle.std.proofs.Common.{sym, ◌∙◌}
use Rattle.bf_rule.proofs.Following.{followed_led, led_followed}
use Rattle.bf_rule.proofs.laws.followed_tasks_are_named_or_reached.Goals as goal

pub returns : goal.returns
returns c = λ branch value task. (
  followed_led c.args.graph.now branch value task,
  λ led. led_followed c.args.graph.now branch value c.tasks_have_ranks.ensures (sym c.len-tasks.ensures.ids ∙ c.len-tasks.ensures.tasks) task led.0 led.1 led.2,
)
