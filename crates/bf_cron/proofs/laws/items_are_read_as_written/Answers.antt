use Rattle.bf_cron.proofs.Forms as forms
use Rattle.bf_cron.proofs.Written as written
use Rattle.bf_cron.proofs.laws.items_are_read_as_written.Goals as goal

pub returns : goal.returns
returns c = λ f text i. (forms.read_is_written f text i, written.written_is_read f text i)
