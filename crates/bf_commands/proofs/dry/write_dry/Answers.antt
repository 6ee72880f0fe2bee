use Rattle.bf_commands.specs.OverTable.{is_single_threaded_in}
use Rattle.bf_commands.proofs.Faults.{dry_range, dry_stop_in, dry_table, range_leaves, reported_in, table_leaves}
use Rattle.bf_commands.proofs.FromKept.{nothing_fits}
use Rattle.bf_planning.proofs.Results.{handed_on}
use Rattle.bf_commands.proofs.Results.{leaves_as, sends_as}
use Rattle.bf_commands.proofs.Sharing.{shared}
use Rattle.bf_commands.proofs.dry.write_dry.Goals as goal

pub returns-in_err-table-clause-fault : goal.returns-in_err-table-clause-fault
returns-in_err-table-clause-fault g c graph file is =
    handed_on _ _ c.from_residual.ensures.1
    (dry_table graph file c.args.table.now _ (is_single_threaded_in c.args.crew.now.progress) _ is.0 _ c.in_err-table.ensures.fault)

pub returns-in_err-table-clause-left : goal.returns-in_err-table-clause-left
returns-in_err-table-clause-left g c graph file is = handed_on _ _ c.from_residual.ensures.1 (table_leaves _ _ _ c.args.table.now _ c.in_err-table.ensures.fault)

pub returns-in_err-runs-clause-fault : goal.returns-in_err-runs-clause-fault
returns-in_err-runs-clause-fault g c graph file is =
    handed_on _ _ c.from_residual-in_err-runs.ensures.1
    (dry_range graph file c.args.table.now _ (is_single_threaded_in c.args.crew.now.progress) _ c.in_ok-table.ensures.ok _ (c.in_err-runs.ensures.fault graph file is.1))

pub returns-in_err-runs-clause-left : goal.returns-in_err-runs-clause-left
returns-in_err-runs-clause-left g c graph file is =
    handed_on _ _ c.from_residual-in_err-runs.ensures.1 (range_leaves _ _ _ graph file _ _ (c.in_err-runs.ensures.fault graph file is.1))

pub write_backfill-requires-sync-K : goal.write_backfill-requires-sync-K
write_backfill-requires-sync-K g c κs = search shared depth 40 fits 20000

pub write_backfill-requires-clause-fit : goal.write_backfill-requires-clause-fit
write_backfill-requires-clause-fit g c κs held = nothing_fits c.args.timed.now.plan.dag

pub returns-clause-ok : goal.returns-clause-ok
returns-clause-ok g c graph file is =
    sends_as (reported_in is.0 (c.in_ok-runs.ensures.ok graph file is.1) c.in_ok-table.ensures.ok) _ _ _ c.write_backfill.ensures.ok

pub returns-clause-fault : goal.returns-clause-fault
returns-clause-fault g c graph file is =
    dry_stop_in graph file c.args.table.now _ (is_single_threaded_in c.args.crew.now.progress) _ c.in_ok-table.ensures.ok _ (c.in_ok-runs.ensures.ok graph file is.1) _ c.write_backfill.ensures.stop

pub returns-clause-left : goal.returns-clause-left
returns-clause-left g c graph file is =
    leaves_as (reported_in is.0 (c.in_ok-runs.ensures.ok graph file is.1) c.in_ok-table.ensures.ok) _ _ _ _ c.write_backfill.ensures.left
