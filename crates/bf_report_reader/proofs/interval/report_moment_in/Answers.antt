use Rattle.std.proofs.Common.{◌≡◌, ap, Some, sym, subst, ◌∙◌, length, arith}
use Rattle.std.specs.Str.{IsUtf8}
use Rattle.std.proofs.lemmas.Int.{ints}
use Rattle.bf_interval.proofs.OneListing.{same_moment}
use Rattle.bf_report_reader.proofs.Words.{moment_utf8, moment_length}
use Rattle.bf_report_reader.proofs.Spelled.{moment_found}
use Rattle.bf_report_reader.proofs.interval.report_moment_in.Goals as goal

pub returns-in_default-clause-every : goal.returns-in_default-clause-every
returns-in_default-clause-every c = λ t says. absurd (c.in_default.ensures.cases.0 (subst IsUtf8 (sym says.1) (moment_utf8 t.nanosecond says.0.shown)))

pub returns-then-text-ne-MOMENT_LEN-clause-every : goal.returns-then-text-ne-MOMENT_LEN-clause-every
returns-then-text-ne-MOMENT_LEN-clause-every c = λ t says.
    absurd (omega (arith, c.if-text-ne-MOMENT_LEN.true, ap length (c.in-Ok.ensures.cases.0 ∙ says.1), moment_length t.nanosecond))

pub returns-then-not-contains-clause-every : goal.returns-then-not-contains-clause-every
returns-then-not-contains-clause-every c = λ t says.
    let (n, (found, near)) = c.in_ok-moment.ensures.found in
    let same : c.in_ok-moment.moment.nanosecond ≡ t.nanosecond =
    near ∙ moment_found t c.in-Ok.text.now n found (omega (arith, c.if-text-ne-MOMENT_LEN.false)) (says.0, c.in-Ok.ensures.cases.0 ∙ says.1) in
    absurd (grind (arith, ints, same, says.0.from_1970, says.0.to_2208, c.if-not-contains.true, c.if-not-contains.ensures.value, c.as_nanosecond.ensures, c.new.ensures.start, c.new.ensures.end))

pub returns-clause-every : goal.returns-clause-every
returns-clause-every c = λ t says.
    let (n, (found, near)) = c.in_ok-moment.ensures.found in
    ap Some (same_moment c.in_ok-moment.moment t
    (near ∙ moment_found t c.in-Ok.text.now n found (omega (arith, c.if-text-ne-MOMENT_LEN.false)) (says.0, c.in-Ok.ensures.cases.0 ∙ says.1)))
