use Rattle.std.proofs.Common.{◌∙◌, List, ℕ, Option, sym, ap, subst}
use Rattle.bf_failure.specs.Told.{may_tell_to}
use Rattle.bf_failure.proofs.Telltale.{may_be_told}
use Rattle.bf_failure.proofs.telling.Telling.tell.Goals as goal

pub tell-requires : goal.tell-requires
tell-requires g c =
    let done = c.args.done.now in
    let may = subst (λ runner. g.R.TaskRunner.may_answer runner done.name done.given done.raw) (ap (λ s. s.runner) (sym c.self.view_is)) c.requires.may in
    let knows = subst (λ runner. g.R.DetailedRunner.may_know runner done.name done.given done.raw c.args.detail) (ap (λ s. s.runner) (sym c.self.view_is)) c.requires.knows in
    let told = may_be_told _ (g.R.TaskRunner.may_answer c.self.inside.runner) (g.R.DetailedRunner.may_know c.self.inside.runner) _ _ _ c.self.invariant done c.args.detail c.in-Some-2.failure c.with_detail.result c.in-Some.context c.name.result c.name-2.result c.raw.result.now c.as_str.result.now
    may knows c.name.ensures c.name-2.ensures c.raw.ensures c.in-Some.ensures.some (sym c.in-Some-2.is ∙ c.in_ok-failure.ensures) c.with_detail.ensures (c.as_str.ensures.value ∙ c.in_ok-line.ensures) in
    subst (λ teller. may_tell_to g.T.Teller.may_tell teller c.as_str.result.now) (ap (λ s. s.teller) c.self.view_is ∙ c.requires.teller) told
