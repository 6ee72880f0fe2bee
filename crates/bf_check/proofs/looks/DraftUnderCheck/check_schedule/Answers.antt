use Rattle.std.proofs.Common.{arith}
use Rattle.bf_check.proofs.FaultLemmas.{up_to}
use Rattle.bf_check.proofs.looks.DraftUnderCheck.check_schedule.Goals as goal

pub returns-then-never_fires-clause-err : goal.returns-then-never_fires-clause-err
returns-then-never_fires-clause-err c = (
  record { spec = c.in_ok-schedule.schedule; says = c.in_ok-schedule.ensures.ok; never = c.never_fires.ensures.0 c.if-never_fires.true },
  up_to c.args.self.now.draft.now 12 (omega arith) c.requires,
)

pub returns-clause-below : goal.returns-clause-below
returns-clause-below c = up_to c.args.self.now.draft.now 13 (omega arith) c.requires
