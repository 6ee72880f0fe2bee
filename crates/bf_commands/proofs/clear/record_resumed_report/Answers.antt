use Rattle.bf_commands.proofs.Sharing.{shared}
use Rattle.bf_commands.proofs.clear.record_resumed_report.Goals as goal

pub record_backfill-requires-sync-K : goal.record_backfill-requires-sync-K
record_backfill-requires-sync-K g c κs = search shared depth 40 fits 20000

pub returns-clause-ok : goal.returns-clause-ok
returns-clause-ok g c = rw (c.with_clocks-crew.ensures.machine, c.with_clocks-crew.ensures.launching, c.deref.ensures.value, c.as_slice.ensures.value) at c.record_backfill.ensures.ok

pub returns-clause-fault : goal.returns-clause-fault
returns-clause-fault g c = rw (c.with_clocks-crew.ensures.launching, c.as_slice.ensures.value) at c.record_backfill.ensures.fault

pub returns-clause-left : goal.returns-clause-left
returns-clause-left g c = rw (c.with_clocks-crew.ensures.machine, c.with_clocks-crew.ensures.launching, c.deref.ensures.value, c.as_slice.ensures.value) at c.record_backfill.ensures.left

pub returns-clause-journal : goal.returns-clause-journal
returns-clause-journal g c = rw (c.with_clocks-crew.ensures.machine, c.with_clocks-crew.ensures.launching, c.deref.ensures.value, c.as_slice.ensures.value) at c.record_backfill.ensures.journal
