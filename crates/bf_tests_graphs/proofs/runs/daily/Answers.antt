use Rattle.std.proofs.Common.{List, ℕ, Result, Ok, Err, IfOk}
use Rattle.std.specs.Prelude.{codes}
use Rattle.bf_cron.specs.Cron.{IsRead, schedule_of}
use Rattle.bf_cron.specs.declared.spec.CronFault.{CronFault}
use Rattle.bf_cron.specs.declared.spec.CronSpec.{CronSpec}
use Rattle.bf_interval.specs.Runs.{IsSaid}
use Rattle.bf_tests_graphs.proofs.runs.daily.Goals as goal

pub returns : goal.returns
returns c = go c.read.result c.read.ensures
  where
    go : (r : Result CronSpec CronFault) → IsRead (schedule_of (codes "@daily")) r → IfOk r IsSaid
    go (Ok spec) is = (codes "@daily", is)
    go (Err fault) is = tt
