use Rattle.std.proofs.Common.{◌≡◌, ◌∙◌, ap, codes, Some, None, refl, sym}
use Rattle.std.specs.Cmp.Lexicographic.{bytes_decides}
use Rattle.bf_xcom.specs.declared.values.Outcome.TheVariants.{Success}
use Rattle.bf_report_reader.proofs.Spelled.{one_outcome}
use Rattle.bf_report_reader.proofs.value.bare_outcome_in.Goals as goal

pub returns-then-eq-clause-every : goal.returns-then-eq-clause-every
returns-then-eq-clause-every c = λ o says.
    let is : c.args.state.now ≡ codes "success" = (bytes_decides c.args.state.now c.as_slice.result.now).0 (sym c.eq.ensures ∙ c.if-eq.true) ∙ c.as_slice.ensures in
    ap Some (ap Success c.nothing.ensures ∙ one_outcome (Success None) o c.args.state.now (codes "-") (tt, is, refl) says)
