use Rattle.std.proofs.Common.{◌≡◌, true, refl}
use Rattle.bf_commands.specs.OverTable.{is_single_threaded_in}
use Rattle.bf_commands.proofs.Faults.{no_run_leaves, reported_at, single_moment, single_table, single_wanting_in, table_leaves}
use Rattle.bf_commands.proofs.FromKept.{nothing_fits}
use Rattle.bf_planning.proofs.Results.{handed_on}
use Rattle.bf_commands.proofs.Results.{leaves_as, sends_as}
use Rattle.bf_commands.proofs.Sharing.{shared}
use Rattle.bf_commands.proofs.single.write_single.Goals as goal

pub returns-in_err-table-clause-fault : goal.returns-in_err-table-clause-fault
returns-in_err-table-clause-fault g c graph file is =
    handed_on _ _ c.from_residual.ensures.1 (single_table graph file c.args.table.now c.args.at _ is _ c.in_err-table.ensures.fault)

pub returns-in_err-table-clause-left : goal.returns-in_err-table-clause-left
returns-in_err-table-clause-left g c graph file is = handed_on _ _ c.from_residual.ensures.1 (table_leaves _ _ _ c.args.table.now _ c.in_err-table.ensures.fault)

pub returns-in_err-runs-clause-fault : goal.returns-in_err-runs-clause-fault
returns-in_err-runs-clause-fault g c graph file is =
    handed_on _ _ c.from_residual-in_err-runs.ensures.1 (single_moment graph file c.args.table.now c.args.at _ _ is c.in_ok-table.ensures.ok _ c.in_err-runs.ensures.err)

pub returns-in_err-runs-clause-left : goal.returns-in_err-runs-clause-left
returns-in_err-runs-clause-left g c graph file is = handed_on _ _ c.from_residual-in_err-runs.ensures.1 (no_run_leaves _ _ _ _)

pub write_backfill-requires-sync-K : goal.write_backfill-requires-sync-K
write_backfill-requires-sync-K g c κs = search shared depth 40 fits 20000

pub write_backfill-requires-clause-fit : goal.write_backfill-requires-clause-fit
write_backfill-requires-clause-fit g c κs held = nothing_fits c.args.plan.now.dag

pub returns-clause-ok : goal.returns-clause-ok
returns-clause-ok g c graph file is =
    let in_years = c.in_ok-runs.ensures.ok in
    sends_as (reported_at {table = c.args.table.now} {at = c.args.at} is c.in_ok-table.ensures.ok in_years.0 in_years.1) _ _ _ c.write_backfill.ensures.ok

pub returns-clause-fault : goal.returns-clause-fault
returns-clause-fault g c graph file is =
    let alone : is_single_threaded_in c.new-crew.result.progress ≡ true = rw (c.new-crew.ensures.progress) refl in
    single_wanting_in graph file c.args.table.now c.args.at _ alone _ c.write_backfill.ensures.stop

pub returns-clause-left : goal.returns-clause-left
returns-clause-left g c graph file is =
    let in_years = c.in_ok-runs.ensures.ok in
    leaves_as (reported_at {table = c.args.table.now} {at = c.args.at} is c.in_ok-table.ensures.ok in_years.0 in_years.1) _ _ _ _ c.write_backfill.ensures.left
