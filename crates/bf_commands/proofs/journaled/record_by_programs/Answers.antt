use Rattle.bf_commands.proofs.journaled.record_by_programs.Goals as goal

pub returns-clause-end : goal.returns-clause-end
returns-clause-end g c = rw c.programs_of-programs.ensures at c.resume_recorded-ended.ensures.end

pub returns-clause-written : goal.returns-clause-written
returns-clause-written g c = rw c.programs_of-programs.ensures at c.resume_recorded-ended.ensures.written
