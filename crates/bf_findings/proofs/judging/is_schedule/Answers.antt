use Rattle.bf_findings.proofs.Schedules.{no_schedule}
use Rattle.bf_findings.proofs.judging.is_schedule.Goals as goal

pub returns-in-Ok-clause-no : goal.returns-in-Ok-clause-no
returns-in-Ok-clause-no c = no_schedule c.args.text.now c.in-Ok.schedule c.never_fires.result c.in-Ok.ensures c.never_fires.ensures
