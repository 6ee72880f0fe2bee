use Rattle.std.proofs.Common.{◌≡◌, codes, Some, None, ap, sym, ◌∙◌, rules}
use Rattle.bf_report_reader.proofs.Spelled.{same_index}
use Rattle.bf_report_reader.proofs.entry.index_in.Goals as goal

pub returns-then-eq-clause-every : goal.returns-then-eq-clause-every
returns-then-eq-clause-every c = λ x says.
    let is : c.args.text.now ≡ codes "-1" = search rules in
    ap Some (same_index None x tt says.0 (sym is ∙ says.1))
