use Rattle.bf_journal.proofs.Wholes.{whole_ones}
use Rattle.bf_journal.proofs.laws.whole_records_are_read.Goals as goal

pub returns : goal.returns
returns c = whole_ones
