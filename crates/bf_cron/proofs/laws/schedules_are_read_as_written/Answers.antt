use Rattle.bf_cron.proofs.Schedules.{schedule_written, schedule_read}
use Rattle.bf_cron.proofs.laws.schedules_are_read_as_written.Goals as goal

pub returns : goal.returns
returns c = λ text s. (schedule_written text s, schedule_read text s)
