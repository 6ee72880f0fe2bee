use Rattle.bf_process.specs.Words.{launching_of}
use Rattle.bf_planning.specs.Clocks.{clocks_in}
use Rattle.bf_commands.proofs.Faults.{reported_by, run_stop_in}
use Rattle.bf_commands.proofs.FromKept.{nothing_fits}
use Rattle.bf_commands.proofs.Results.{leaves_as, sends_as}
use Rattle.bf_commands.proofs.Sharing.{shared}
use Rattle.bf_commands.proofs.run.run_programs.Goals as goal

pub write_backfill-written-requires-sync-K : goal.write_backfill-written-requires-sync-K
write_backfill-written-requires-sync-K g c κs = search shared depth 40 fits 20000

pub write_backfill-written-requires-clause-fit : goal.write_backfill-written-requires-clause-fit
write_backfill-written-requires-clause-fit g c κs held = nothing_fits c.in_ok-dated.dated.plan.dag

pub returns : goal.returns
returns g c =
    let launching = launching_of c.args.crew.now.launching in
    let dated = c.in_ok-dated.ensures in
    let is = reported_by dated.plan dated.listing {launching = launching} {may_hear = g.RT.Starter.may_hear c.args.crew.now.rt.now} dated.clocks in
    let ok : _ = rw (c.with_clocks-crew.ensures.machine, c.with_clocks-crew.ensures.launching, c.deref.ensures.value) at c.write_backfill-written.ensures.ok in
    let stop : _ = rw (c.with_clocks-crew.ensures.machine, c.with_clocks-crew.ensures.launching, c.deref.ensures.value) at c.write_backfill-written.ensures.stop in
    let left : _ = rw (c.with_clocks-crew.ensures.machine, c.with_clocks-crew.ensures.launching, c.deref.ensures.value) at c.write_backfill-written.ensures.left in
    record {
      ok = sends_as is _ _ _ ok;
      fault = run_stop_in launching (g.RT.Starter.may_lose c.args.crew.now.rt.now) c.args.graph.now _ _ _ dated.plan _ dated.listing (clocks_in c.in_ok-dated.dated) dated.clocks _ stop;
      left = leaves_as is _ _ _ _ left;
    }
