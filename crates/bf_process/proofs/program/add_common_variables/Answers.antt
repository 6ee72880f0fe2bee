use Rattle.std.proofs.Common.{◌∙◌, rules, refl}
use Rattle.bf_process.proofs.Variables.{said_next, said_none}
use Rattle.bf_process.proofs.program.add_common_variables.Goals as goal

pub loop-variable-init : goal.loop-variable-init
loop-variable-init c = (λ name. said_none name _, ((refl, refl), refl, refl))

pub loop-variable-preserved : goal.loop-variable-preserved
loop-variable-preserved c = (
  λ name. said_next c.args.context.now c.args.clock.now.at.nanosecond c.all-variable-items.result.now c.loop-variable.variable-index c.all-variable-items.ensures c.loop-variable-test.true name _ _ _ _ _
      (c.loop-variable.invariant.0 name) c.name.ensures (c.as_str.ensures.value ∙ c.in_ok-value.ensures) (c.in_ok-add_variable.ensures.variable name),
  search rules,
)
