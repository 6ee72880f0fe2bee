use Rattle.bf_interval.proofs.Meeting as meeting
use Rattle.bf_interval.proofs.laws.intervals_meet.Goals as goal

pub returns : goal.returns
returns c = meeting.intervals_meet
