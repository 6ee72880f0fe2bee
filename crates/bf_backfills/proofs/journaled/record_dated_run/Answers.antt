use Rattle.bf_planning.proofs.Results.{handed_on}
use Rattle.bf_backfills.proofs.Recorded.{fault_over, left_over, opened_fault, opened_leaves, sends_over}
use Rattle.bf_backfills.proofs.journaled.record_dated_run.Goals as goal

pub returns-in_err-opened-clause-fault : goal.returns-in_err-opened-clause-fault
returns-in_err-opened-clause-fault g c =
    handed_on _ _ c.from_residual.ensures.1
    (opened_fault (g.J.Journals.journal c.args.journals.now) c.args.asked _ _ _ _ _ _ c.in_err-opened.ensures.fault)

pub returns-in_err-opened-clause-left : goal.returns-in_err-opened-clause-left
returns-in_err-opened-clause-left g c =
    handed_on _ _ c.from_residual.ensures.1
    (opened_leaves (g.J.Journals.journal c.args.journals.now) c.args.asked _ _ _ _ _ c.in_err-opened.ensures.fault)

pub returns-in-Ok-clause-ok : goal.returns-in-Ok-clause-ok
returns-in-Ok-clause-ok g c =
    let opened = c.in_ok-opened.ensures in
    sends_over (g.J.Journals.journal c.args.journals.now) c.args.asked _ opened.held _ opened.retry_failed _ _ _ _ _ _ _ _ c.in-Ok.success c.in-Ok.is c.record_programs-report.ensures.ok

pub returns-in-Err-clause-fault : goal.returns-in-Err-clause-fault
returns-in-Err-clause-fault g c =
    let opened = c.in_ok-opened.ensures in
    rw c.fault_at_journal.ensures (fault_over (g.J.Journals.journal c.args.journals.now) c.args.asked _ opened.held _ opened.retry_failed _ _ _ _ _
    _ _ opened.stop_after _ opened.path c.in-Err.fault c.in-Err.is c.record_programs-report.ensures.fault)

pub returns-in-Err-clause-left : goal.returns-in-Err-clause-left
returns-in-Err-clause-left g c =
    let opened = c.in_ok-opened.ensures in
    rw c.fault_at_journal.ensures (left_over (g.J.Journals.journal c.args.journals.now) c.args.asked _ opened.held _ opened.retry_failed _ _ _ _ _
    _ _ _ _ _ c.in-Err.fault c.in-Err.is c.record_programs-report.ensures.left)
