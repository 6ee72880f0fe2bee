use Rattle.std.proofs.Common.{rules, Some, ap}
use Rattle.bf_report_reader.proofs.Digits.{digit_text, digit_of, is_digit}
use Rattle.bf_report_reader.proofs.field.digit_in.Goals as goal

pub returns-then-is_ascii_digit-clause-some : goal.returns-then-is_ascii_digit-clause-some
returns-then-is_ascii_digit-clause-some c = digit_text c.args.digit (search (rules, c.if-is_ascii_digit.true, c.is_ascii_digit.ensures)) (search (rules, c.if-is_ascii_digit.true, c.is_ascii_digit.ensures))

pub returns-then-is_ascii_digit-clause-every : goal.returns-then-is_ascii_digit-clause-every
returns-then-is_ascii_digit-clause-every c = λ n small is. ap Some (let (low, high) = is_digit c.args.digit n small is in digit_of c.args.digit n low high small is)

pub returns-else-is_ascii_digit-clause-every : goal.returns-else-is_ascii_digit-clause-every
returns-else-is_ascii_digit-clause-every c = λ n small is. absurd (let range = is_digit c.args.digit n small is in search (rules, range, c.if-is_ascii_digit.false, c.is_ascii_digit.ensures))
