use Rattle.std.proofs.Common.{sym, ap, ◌∙◌}
use Rattle.std.specs.Fmt.{decimal}
use Rattle.std.proofs.Common.{length}
use Rattle.bf_value.proofs.SizeLemmas.{length_decimal, length_decimal_zero}
use Rattle.bf_value.proofs.size.digit_count.Goals as goal

pub returns-then-n-eq0-clause-digits : goal.returns-then-n-eq0-clause-digits
returns-then-n-eq0-clause-digits c = sym length_decimal_zero ∙ ap (λ n. length (decimal n)) (sym c.if-n-eq0.true)

pub returns-clause-digits : goal.returns-clause-digits
returns-clause-digits c = sym (length_decimal c.args.n c.ilog10.result c.ranges.n.fits c.ilog10.ensures.power_le c.ilog10.ensures.next_power_gt)
