use Rattle.std.proofs.Common.{inr, sym, subst}
use Rattle.std.proofs.lemmas.Result.{IfErr-weaker, IfOk-weaker}
use Rattle.bf_planning.specs.Graphs.{IsPlanOf}
use Rattle.bf_planning.proofs.plan.dated_plan_in.Goals as goal

pub into_dated-requires : goal.into_dated-requires
into_dated-requires c = (c.in_ok-timed.ensures.zone.draft.schedule, c.in_ok-timed.ensures.zone.fires.says)

pub returns-clause-plan : goal.returns-clause-plan
returns-clause-plan c = IfOk-weaker c.into_dated.result _ _ (λ dated same. subst (IsPlanOf c.args.graph.now _) (sym same) c.in_ok-timed.ensures.plan) c.into_dated.ensures.plan

pub returns-clause-listing : goal.returns-clause-listing
returns-clause-listing c = IfOk-weaker c.into_dated.result _ _ (λ dated lists. lists _ _ c.in_ok-timed.ensures.zone) c.into_dated.ensures.listing

pub returns-clause-clocks : goal.returns-clause-clocks
returns-clause-clocks c = IfOk-weaker c.into_dated.result _ _ (λ dated are. are _ _ c.in_ok-timed.ensures.zone) c.into_dated.ensures.clocks

pub returns-clause-fault : goal.returns-clause-fault
returns-clause-fault c = IfErr-weaker c.into_dated.result _ _ (λ fault is. inr (is _ _ c.in_ok-timed.ensures.zone)) c.into_dated.ensures.fault
