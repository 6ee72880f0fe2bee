use Rattle.std.proofs.Common.{Err, ap}
use Rattle.std.proofs.lemmas.Result.{IfOk-weaker}
use Rattle.bf_failure.proofs.Lines.{found_in_line, found_not_utf8}
use Rattle.bf_failure.proofs.finding.find_failure_in_line.Goals as goal

pub returns-in-Ok : goal.returns-in-Ok
returns-in-Ok c =
    IfOk-weaker c.find_failure_in_value.result _ _ (λ failure found. found_in_line c.args.plan.now.dag c.args.task c.args.line.now _ failure c.in-Ok.ensures.ok.0 c.in-Ok.ensures.ok.1 found) c.find_failure_in_value.ensures

pub returns-in-Err-NotUtf8 : goal.returns-in-Err-NotUtf8
returns-in-Err-NotUtf8 c = found_not_utf8 c.args.plan.now.dag c.args.task c.args.line.now (c.in-Err-NotUtf8.ensures.not_utf8.0 (ap Err c.in-Err-NotUtf8.field-0-is))
