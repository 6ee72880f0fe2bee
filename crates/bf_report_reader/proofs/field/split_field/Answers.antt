use Rattle.std.proofs.Common.{sym}
use Rattle.bf_report_reader.proofs.Splits.{lacks_before, lacks_all, parts_at}
use Rattle.bf_report_reader.proofs.field.split_field.Goals as goal

pub returns-in_err-at-clause-none : goal.returns-in_err-at-clause-none
returns-in_err-at-clause-none c = rw c.from_residual.ensures (lacks_all 32 c.args.text.now (sym c.in_err-at.ensures))

pub returns-clause-some : goal.returns-clause-some
returns-clause-some c = parts_at 32 c.in_ok-at.at c.args.text.now (sym c.in_ok-at.ensures)

pub returns-clause-word : goal.returns-clause-word
returns-clause-word c = lacks_before 32 c.in_ok-at.at c.args.text.now (sym c.in_ok-at.ensures)
