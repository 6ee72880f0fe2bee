use Rattle.bf_backfills.proofs.journaled.write_run_report.Goals as goal

pub returns-in-Some-clause-left : goal.returns-in-Some-clause-left
returns-in-Some-clause-left g c = rw c.in-Some.is c.record_run.ensures.left

pub returns-in-None-clause-left : goal.returns-in-None-clause-left
returns-in-None-clause-left g c = rw (c.in-None.is, ← c.deref.ensures.value, ← c.zone_file.ensures) c.run_programs.ensures.left

pub returns-in-None-clause-ok : goal.returns-in-None-clause-ok
returns-in-None-clause-ok g c = rw (c.in-None.is, ← c.deref.ensures.value, ← c.zone_file.ensures) c.run_programs.ensures.ok
