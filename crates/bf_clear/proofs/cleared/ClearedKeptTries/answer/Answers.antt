use Rattle.std.proofs.Common.{◌≡◌, rules, SFits, w32, to_z, of_z, length, None, subst, sym, ap, ◌∙◌, arith}
use Rattle.std.specs.Option.{option_copied}
use Rattle.std.proofs.lemmas.Int.{to_z-of_z}
use Rattle.std.proofs.lemmas.Result.{IfOk-weaker}
use Rattle.bf_core.specs.Terms.{Dag}
use Rattle.bf_kept.specs.Kept.{IsAnsweredBy}
use Rattle.bf_dependents.specs.Dependents.{has_instance_in}
use Rattle.bf_clear.specs.Keeping.{Clearance, kept_in}
use Rattle.bf_clear.proofs.Replies.{answers_here, answers_none}
use Rattle.bf_clear.proofs.cleared.ClearedKeptTries.answer.Goals as goal

pub returns-in-Some : goal.returns-in-Some
returns-in-Some c =
    let few : _ = ap (λ (d : Dag). length d.tasks) c.dag-dag.ensures.dag in
    let inside : Clearance = record { dag = c.self.inside.plan.now.dag; cleared = c.self.inside.cleared; report = c.self.inside.report } in
    let fits : SFits w32 c.args.name.index = search rules in
    let index : to_z w32 (of_z w32 c.args.name.index) ≡ c.args.name.index = to_z-of_z w32 c.args.name.index fits in
    IfOk-weaker c.answer_of_instance.result _ _ (λ o is.
    subst (λ (k : Clearance). IsAnsweredBy (kept_in k) c.args.name c.args.given.now o) c.self.view_is
    (answers_here inside c.args.name c.args.given.now c.in-Some.instance.now o
    (grind (arith, c.if-not-is_task.false, c.len.ensures, few))
    (sym (ap (λ (d : Dag). has_instance_in d c.self.inside.cleared c.args.name.run c.args.name.task c.args.name.index) c.dag-dag.ensures.dag) ∙ (ap (has_instance_in c.dag-dag.result.now c.self.inside.cleared c.args.name.run c.args.name.task) (sym index) ∙ (sym c.has_instance.ensures ∙ c.if-has_instance.false)))
    (sym c.instance_at.ensures ∙ ap option_copied c.in-Some.is) is))
    c.answer_of_instance.ensures

pub returns-in-None : goal.returns-in-None
returns-in-None c =
    let inside : Clearance = record { dag = c.self.inside.plan.now.dag; cleared = c.self.inside.cleared; report = c.self.inside.report } in
    subst (λ (k : Clearance). IsAnsweredBy (kept_in k) c.args.name c.args.given.now None) c.self.view_is
    (answers_none inside c.args.name c.args.given.now (sym c.instance_at.ensures ∙ ap option_copied c.in-None.is))
