use Rattle.bf_cron.proofs.LeapYears as years
use Rattle.bf_cron.proofs.laws.fires_in_each_leap_year.Goals as goal

pub returns : goal.returns
returns c = years.fires_in_each_leap_year
