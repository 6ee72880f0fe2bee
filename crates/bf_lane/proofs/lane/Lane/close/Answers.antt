use Rattle.std.proofs.Common.{◌≡◌, ◌∙◌, ◌++◌, ◌∷◌, [], List, sym, ap, subst}
use Rattle.crossbeam_queue.specs.Passes.{view}
use Rattle.bf_lane.specs.declared.messages.Job.{Job}
use Rattle.bf_lane.specs.declared.messages.Job.TheVariants.{Stop}
use Rattle.bf_lane.specs.Lanes.{IsClosed}
use Rattle.bf_lane.proofs.Relays.{merges}
use Rattle.bf_lane.proofs.Opening.{closing}
use Rattle.bf_lane.proofs.lane.Lane.close.Goals as goal

pub absorb-requires-clause-rule : goal.absorb-requires-clause-rule
absorb-requires-clause-rule g c = merges _ _ _ _ (ap (λ v. v.puts) c.wait_and_put.ensures.put ∙ ap (λ v. v.puts) c.self.invariant.puts_are) (ap (λ v. v.takes) c.join-takes.ensures.took)

pub absorb-requires-2-clause-rule : goal.absorb-requires-2-clause-rule
absorb-requires-2-clause-rule g c = merges _ _ _ _ (ap (λ v. v.puts) c.join-takes.ensures.sent) (ap (λ v. v.takes) c.self.invariant.gathers_are)

pub returns-clause-closed : goal.returns-clause-closed
returns-clause-closed g c =
    let may_answer = g.K.Service.answers in
    let may_give_up = g.K.Service.gives_up in
    let served = c.join-takes.ensures in
    let before = served.before in
    let submitted = (view c.self.inside.puts).put in
    let sent = (view c.join-takes.result.1).put in
    let gathered = (view c.drain.new.seat).taken in
    let items = c.learn_as.ensures.rule.0 in
    let put_is : (view c.absorb.new.pass).put ≡ submitted ++ Stop ∷ [] = ap (λ v. v.put) c.absorb.ensures.rule ∙ ap (λ v. v.put) c.wait_and_put.ensures.put in
    let taken_is : (view c.absorb.new.pass).taken ≡ before ++ Stop ∷ [] = ap (λ v. v.taken) c.absorb.ensures.rule ∙ ap (λ v. v.taken) served.took in
    let all_is : submitted ++ Stop ∷ [] ≡ (before ++ Stop ∷ []) ++ items = sym put_is ∙ c.learn_as.ensures.rule.1 ∙ ap (λ l. l ++ items) taken_is in
    let sent_is : (view c.drain.new.seat).put ≡ sent = c.drain.ensures.put ∙ ap (λ v. v.put) c.absorb-2.ensures.rule in
    let done = closing may_answer may_give_up submitted before items sent gathered c.self.invariant.runs served.runs all_is served.answers (sym sent_is ∙ c.drain.ensures.all) in
    let s : c.from_passes.result.submitted ≡ submitted ++ Stop ∷ [] = c.from_passes.ensures.jobs.0 ∙ ap (λ v. v.put) c.learn_as.ensures.queue.1 ∙ put_is in
    let t : c.from_passes.result.taken ≡ before ++ Stop ∷ [] = c.from_passes.ensures.jobs.1 ∙ ap (λ v. v.taken) c.learn_as.ensures.queue.1 ∙ taken_is in
    let u : c.from_passes.result.sent ≡ sent = c.from_passes.ensures.results.0 ∙ sent_is in
    subst (IsClosed may_answer may_give_up) (λ i. record { submitted = sym s i; taken = sym t i; sent = sym u i; gathered = sym c.from_passes.ensures.results.1 i }) done
