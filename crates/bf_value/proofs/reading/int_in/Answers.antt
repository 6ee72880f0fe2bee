use Rattle.std.proofs.Common.{◌≡◌, arith, rules}
use Rattle.std.specs.Fmt.{signed_decimal}
use Rattle.std.proofs.lemmas.Int.{to_z-of_z}
use Rattle.bf_value.proofs.TextLemmas.{line_of_digits, text_of_digits}
use Rattle.bf_value.proofs.reading.int_in.Goals as goal

pub returns-clause-line : goal.returns-clause-line
returns-clause-line c =
    let same : c.args.text.now ≡ signed_decimal c.in-Ok.number = search rules in
    grind (arith, to_z-of_z, same, line_of_digits)

pub returns-clause-text : goal.returns-clause-text
returns-clause-text c = λ depth.
    let same : c.args.text.now ≡ signed_decimal c.in-Ok.number = search rules in
    grind (arith, to_z-of_z, same, text_of_digits)
