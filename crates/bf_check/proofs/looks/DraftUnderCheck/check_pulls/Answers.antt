use Rattle.std.proofs.Common.{ℕ, List, Global, Vec, map, ap, ◌∙◌, sym, subst, arith}
use Rattle.std.proofs.lemmas.Result.{IfOk-weaker}
use Rattle.bf_graph.specs.Edges.{lists, AreInRange}
use Rattle.bf_check.specs.declared.fault.TaskFault.TheVariants.{UnknownUpstream}
use Rattle.bf_check.specs.declared.pulls.Pulls.{Pulls}
use Rattle.bf_check.specs.inner.Looks.{pulls_in}
use Rattle.bf_check.proofs.PlanLemmas.{settling_in_range}
use Rattle.bf_check.proofs.PullLemmas.{all_may_pull, pulls_are, pulls_told}
use Rattle.bf_check.proofs.looks.DraftUnderCheck.check_pulls.Goals as goal

pub pulls_of_each-requires-clause-in_range : goal.pulls_of_each-requires-clause-in_range
pulls_of_each-requires-clause-in_range c = subst AreInRange (sym (ap lists c.as_slice.ensures.value ∙ c.in_ok-settling.ensures)) (settling_in_range c.args.self.now.draft.now (c.requires.below.tasks UnknownUpstream (omega arith)))

pub unwrap_or_refuse-requires-clause-first : goal.unwrap_or_refuse-requires-clause-first
unwrap_or_refuse-requires-clause-first c = pulls_told c.args.self.now.draft.now c.in_ok-found.found.items c.in_ok-found.ensures.one_each c.in_ok-found.ensures.each

pub returns-clause-pulls : goal.returns-clause-pulls
returns-clause-pulls c = IfOk-weaker _ _ _ (λ (each : Vec Pulls Global) found. pulls_are c.args.self.now.draft.now c.in_ok-found.found.items c.in_ok-found.ensures.one_each c.in_ok-found.ensures.each each.items found ∙ ap (λ (ids : List (List ℕ)). map (pulls_in ids) c.args.self.now.draft.now.tasks) (sym c.args.self.now.of_draft)) c.unwrap_or_refuse.ensures.found

pub returns-clause-settled : goal.returns-clause-settled
returns-clause-settled c = IfOk-weaker _ _ _ (λ (each : Vec Pulls Global) found. all_may_pull c.args.self.now.draft.now c.in_ok-found.found.items c.in_ok-found.ensures.one_each c.in_ok-found.ensures.each each.items found) c.unwrap_or_refuse.ensures.found
