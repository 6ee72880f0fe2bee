use Rattle.bf_commands.proofs.FromKept.{reported_from}
use Rattle.bf_commands.proofs.Results.{leaves_as, sends_as}
use Rattle.bf_commands.proofs.journaled.record_and_write_report.Goals as goal

pub returns-in-Ok-clause-ok : goal.returns-in-Ok-clause-ok
returns-in-Ok-clause-ok g c =
    let end : _ = rw c.in-Ok.is at c.record_to_end-ended.ensures.end in
    sends_as (reported_from c.state-end.ensures.end end) _ _ _ c.write_report_and_tell-report.ensures.ok

pub returns-in-Ok-clause-left : goal.returns-in-Ok-clause-left
returns-in-Ok-clause-left g c =
    let end : _ = rw c.in-Ok.is at c.record_to_end-ended.ensures.end in
    leaves_as (reported_from c.state-end.ensures.end end) _ _ _ _ c.write_report_and_tell-report.ensures.left
