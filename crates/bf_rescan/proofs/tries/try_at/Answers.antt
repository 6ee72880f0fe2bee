use Rattle.std.proofs.Common.{ap, ◌∙◌, rules}
use Rattle.bf_plan.specs.declared.plan.Dag.{Dag}
use Rattle.bf_try.specs.Tries.{name_of}
use Rattle.bf_core.specs.declared.event.Event.{Event}
use Rattle.bf_core.specs.Cores.{MayCome}
use Rattle.bf_rescan.proofs.Bests.{none_begins, one_begins}
use Rattle.bf_rescan.proofs.tries.try_at.Goals as goal

pub returns-then-may_begin : goal.returns-then-may_begin
returns-then-may_begin c =
    let able : MayCome c.args.core.now (Event.Begin c.name_of-name.result) = search rules in
    one_begins c.args.core.now c.journal-replayed.ensures.replayed c.args.run c.args.task c.args.place c.args.instance.now c.requires.held c.name_of-name.result
    (c.name_of-name.ensures ∙ ap (λ (d : Dag). name_of d c.args.run c.args.task c.args.place c.args.instance.now.attempt) (c.dag.ensures.dag ∙ c.plan.ensures.dag)) able

pub returns-else-may_begin : goal.returns-else-may_begin
returns-else-may_begin c =
    let unable : ¬ (MayCome c.args.core.now (Event.Begin c.name_of-name.result)) = λ able. (let yes = c.may_begin.ensures.1 able in search rules) in
    none_begins c.args.core.now c.journal-replayed.ensures.replayed c.args.run c.args.task c.args.place c.args.instance.now c.requires.held c.name_of-name.result
    (c.name_of-name.ensures ∙ ap (λ (d : Dag). name_of d c.args.run c.args.task c.args.place c.args.instance.now.attempt) (c.dag.ensures.dag ∙ c.plan.ensures.dag)) unable
