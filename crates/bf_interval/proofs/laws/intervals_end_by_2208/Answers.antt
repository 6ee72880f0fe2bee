use Rattle.bf_interval.proofs.Ending as ending
use Rattle.bf_interval.proofs.laws.intervals_end_by_2208.Goals as goal

pub returns : goal.returns
returns c = ending.intervals_end_by_2208
