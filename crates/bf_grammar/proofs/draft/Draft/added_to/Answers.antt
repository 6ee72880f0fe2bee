use Rattle.std.proofs.Common.{◌≡◌, ap, ◌∙◌}
use Rattle.std.proofs.lemmas.Result.{IfOk-weaker}
use Rattle.clap.specs.Words.{App, app_of, with_subcommand}
use Rattle.bf_grammar.proofs.Local.{local_command}
use Rattle.bf_grammar.proofs.draft.Draft.added_to.Goals as goal

pub returns : goal.returns
returns c sub given plain =
    let same : app_of c.in_ok-self.field-0 ≡ sub = rw c.in_ok-self.was at given in
    let here = local_command c.in_ok-self.field-0 (ap (λ (a : App). a.top.is_plain) same ∙ plain) in
    let wanted = ap (λ (a : App). with_subcommand (app_of c.args.command) a.top) same in
    IfOk-weaker c.subcommand.result _ _ (λ made adds. adds.shape here ∙ wanted) c.subcommand.ensures
