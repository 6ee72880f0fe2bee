use Rattle.std.proofs.Common.{rules, arith, sym, subst}
use Rattle.bf_plan.specs.declared.plan.Dag.{Dag}
use Rattle.bf_failure.specs.Tried.{IsContext}
use Rattle.bf_failure.proofs.context.context_of.Goals as goal

pub returns-clause-some : goal.returns-clause-some
returns-clause-some c = record {
  task = c.in-Some-Some.task.now;
  interval = c.in-Some-Some.run'.now;
  task_there = grind (arith, rules);
  run_there = sym c.in-Some-Some.ensures'.run;
  is_context = subst (λ (dag : Dag). IsContext dag c.in-Some-Some.task.now c.in-Some-Some.run'.now c.args.name c.context_in.result) c.dag-2.ensures.dag c.context_in.ensures;
}
