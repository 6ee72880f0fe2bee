use Rattle.bf_clear.specs.Keeping.{kept_in}
use Rattle.bf_process.specs.Words.{launching_of}
use Rattle.bf_commands.specs.OverTable.{is_single_threaded_in}
use Rattle.bf_planning.specs.Clocks.{clocks_in}
use Rattle.bf_commands.specs.Programs.{with_clocks}
use Rattle.bf_commands.proofs.ClearFaults.{again_stop_in, uncleared_again}
use Rattle.bf_commands.proofs.FromKept.{reported_after}
use Rattle.bf_planning.proofs.Results.{handed_on}
use Rattle.bf_commands.proofs.Results.{leaves_as, sends_as}
use Rattle.bf_commands.proofs.Sharing.{shared}
use Rattle.bf_commands.proofs.clear.clear_and_write_report.Goals as goal

pub write_backfill-written-requires-sync-K : goal.write_backfill-written-requires-sync-K
write_backfill-written-requires-sync-K g c κs = search shared depth 40 fits 20000

pub returns-in_err-kept-clause-fault : goal.returns-in_err-kept-clause-fault
returns-in_err-kept-clause-fault g c =
    handed_on _ _ c.from_residual.ensures.1 (uncleared_again c.args.dated.now.plan.dag c.args.dated.now.runs c.args.report c.args.what.now
    (is_single_threaded_in c.args.crew.now.progress) (with_clocks (launching_of c.args.crew.now.launching) (clocks_in c.args.dated.now)) (g.RT.Starter.may_lose c.args.crew.now.rt.now)
    c.args.answers _ c.in_err-kept.ensures.fault)

pub returns-clause-ok : goal.returns-clause-ok
returns-clause-ok g c =
    let ok : _ = rw (c.with_clocks-crew.ensures.machine, c.with_clocks-crew.ensures.launching, c.deref.ensures.value) at c.write_backfill-written.ensures.ok in
    sends_as (reported_after c.in_ok-kept.ensures.kept) _ _ _ ok

pub returns-clause-left : goal.returns-clause-left
returns-clause-left g c =
    let left : _ = rw (c.with_clocks-crew.ensures.machine, c.with_clocks-crew.ensures.launching, c.deref.ensures.value) at c.write_backfill-written.ensures.left in
    leaves_as (reported_after c.in_ok-kept.ensures.kept) _ _ _ _ left

pub returns-clause-fault : goal.returns-clause-fault
returns-clause-fault g c =
    let stop : _ = rw (c.with_clocks-crew.ensures.machine, c.with_clocks-crew.ensures.progress, c.with_clocks-crew.ensures.launching, c.deref.ensures.value) at c.write_backfill-written.ensures.stop in
    again_stop_in (is_single_threaded_in c.args.crew.now.progress) (with_clocks (launching_of c.args.crew.now.launching) (clocks_in c.args.dated.now)) (g.RT.Starter.may_lose c.args.crew.now.rt.now)
    c.args.dated.now.plan.dag c.args.dated.now.runs c.args.report c.args.what.now (kept_in c.in_ok-kept.kept)
    c.in_ok-kept.ensures.kept c.args.answers _ stop
