use Rattle.std.proofs.Common.{inl}
use Rattle.bf_planning.proofs.Results.{handed_on}
use Rattle.bf_commands.proofs.Results.{leaves_as, sends_as}
use Rattle.bf_backfills.proofs.Recorded.{dated_list, journaled, run_fault}
use Rattle.bf_backfills.proofs.journaled.record_run.Goals as goal

pub returns-in_err-dated-clause-fault : goal.returns-in_err-dated-clause-fault
returns-in_err-dated-clause-fault g c = rw (← c.deref.ensures.value, ← c.zone_file.ensures) (handed_on _ _ c.from_residual.ensures.1 (inl (dated_list _ _ _ _ c.in_err-dated.ensures.fault)))

pub returns-clause-ok : goal.returns-clause-ok
returns-clause-ok g c =
    let dated = c.in_ok-dated.ensures in
    rw (← c.deref.ensures.value, ← c.zone_file.ensures)
    (sends_as (journaled c.args.range dated.plan dated.listing (g.J.Journals.journal c.args.journals.now) c.args.asked _ _ _ dated.clocks) _ _ _ c.record_dated_run.ensures.ok)

pub returns-clause-fault : goal.returns-clause-fault
returns-clause-fault g c =
    let dated = c.in_ok-dated.ensures in
    rw (← c.deref.ensures.value, ← c.zone_file.ensures)
    (run_fault c.args.range dated.plan dated.listing (g.J.Journals.journal c.args.journals.now) c.args.asked _ _ c.record_dated_run.ensures.fault)

pub returns-clause-left : goal.returns-clause-left
returns-clause-left g c =
    let dated = c.in_ok-dated.ensures in
    rw (← c.deref.ensures.value, ← c.zone_file.ensures)
    (leaves_as (journaled c.args.range dated.plan dated.listing (g.J.Journals.journal c.args.journals.now) c.args.asked _ _ _ dated.clocks) _ _ _ _ c.record_dated_run.ensures.left)
