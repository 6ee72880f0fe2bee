use Rattle.std.proofs.Common.{◌≡◌, true, false, sym, ◌∙◌, subst}
use Rattle.bf_core.specs.Cores.{MayCome}
use Rattle.bf_due.specs.declared.agenda.Step.{Step}
use Rattle.bf_due.specs.Agendas.{event_of}
use Rattle.bf_due.proofs.AgendaFacts.{still_there, was_there}
use Rattle.bf_due.proofs.pruning.drop_outdated_steps.Goals as goal

pub loop-step-preserved : goal.loop-step-preserved
loop-step-preserved c = record {
  kept = λ x noted h may. still_there c.take_first.result c.loop-step.agenda.items c.take_first.new.self.items c.in-Some.step x c.take_first.ensures.top (c.in-Some.ensures {u = tt}).top c.take_first.ensures.lost
      (λ same. let yes : c.may_come.result ≡ true = (c.may_come.ensures noted).1 (subst (λ (y : Step). MayCome c.args.core.now (event_of y)) same may) in let f : true ≡ false = sym yes ∙ c.if-may_come.false in cc)
      (c.loop-step.invariant.kept x noted h may);
  fewer = λ x h. c.loop-step.invariant.fewer x (was_there c.take_first.result c.loop-step.agenda.items c.take_first.new.self.items c.take_first.ensures.lost c.take_first.ensures.none x h);
}
