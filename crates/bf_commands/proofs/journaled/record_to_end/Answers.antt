use Rattle.bf_commands.proofs.journaled.record_to_end.Goals as goal

pub returns-in-Some-clause-end : goal.returns-in-Some-clause-end
returns-in-Some-clause-end g c = rw c.in-Some.is c.record_over_table.ensures.end

pub returns-in-Some-clause-written : goal.returns-in-Some-clause-written
returns-in-Some-clause-written g c = rw c.in-Some.is c.record_over_table.ensures.written

pub returns-in-None-clause-end : goal.returns-in-None-clause-end
returns-in-None-clause-end g c = rw c.in-None.is c.record_by_programs.ensures.end

pub returns-in-None-clause-written : goal.returns-in-None-clause-written
returns-in-None-clause-written g c = rw c.in-None.is c.record_by_programs.ensures.written
