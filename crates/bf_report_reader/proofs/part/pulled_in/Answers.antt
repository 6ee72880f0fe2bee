use Rattle.std.proofs.Common.{◌≡◌, codes, Some, None, ap, sym, ◌∙◌, rules}
use Rattle.bf_report_reader.proofs.Spelled.{same_pulled}
use Rattle.bf_report_reader.proofs.part.pulled_in.Goals as goal

pub returns-then-eq-clause-every : goal.returns-then-eq-clause-every
returns-then-eq-clause-every c = λ x says.
    let is : c.args.text.now ≡ codes "-" = search rules in
    ap Some (same_pulled None x tt says.0 (sym is ∙ says.1))
