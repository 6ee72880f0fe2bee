use Rattle.std.proofs.Common.{◌≡◌, ap, ◌∙◌}
use Rattle.std.proofs.lemmas.Result.{IfOk-weaker}
use Rattle.clap.specs.Words.{App, Rule, app_of, rule_of, with_rule}
use Rattle.bf_grammar.proofs.Local.{local_argument}
use Rattle.bf_grammar.proofs.draft.Draft.arg.Goals as goal

pub returns-in-Ok : goal.returns-in-Ok
returns-in-Ok c app rule given is simple =
    let same : app_of c.in-Ok.command ≡ app = rw c.in-Ok.is at given in
    let here = local_argument c.args.argument (ap (λ (r : Rule). r.is_simple) is ∙ simple) in
    let wanted = ap (λ (a : App). with_rule a (rule_of c.args.argument)) same ∙ ap (λ (r : Rule). with_rule app r) is in
    IfOk-weaker c.arg.result _ _ (λ made adds. adds.shape here ∙ wanted) (rw c.in-Ok.command-is at c.arg.ensures)
