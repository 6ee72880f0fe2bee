use Rattle.bf_commands.proofs.backfill.resume_backfill.Goals as goal

pub returns-in-Some-clause-end : goal.returns-in-Some-clause-end
returns-in-Some-clause-end g c = rw c.in-Some.is c.resume_over_table.ensures.end

pub returns-in-Some-clause-stop : goal.returns-in-Some-clause-stop
returns-in-Some-clause-stop g c = rw c.in-Some.is c.resume_over_table.ensures.wanting

pub returns-in-None-clause-end : goal.returns-in-None-clause-end
returns-in-None-clause-end g c = rw c.in-None.is c.resume_by_programs.ensures.end

pub returns-in-None-clause-stop : goal.returns-in-None-clause-stop
returns-in-None-clause-stop g c = rw c.in-None.is c.resume_by_programs.ensures.stop
