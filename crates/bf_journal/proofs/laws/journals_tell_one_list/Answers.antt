use Rattle.bf_journal.proofs.Naming.{are_told}
use Rattle.bf_journal.proofs.Telling.{one_reading}
use Rattle.bf_journal.proofs.laws.journals_tell_one_list.Goals as goal

pub returns : goal.returns
returns c dag intervals named are = one_reading dag intervals (are_told dag intervals named are)
