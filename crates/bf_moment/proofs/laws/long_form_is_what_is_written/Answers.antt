use Rattle.bf_moment.proofs.LongForm.{moment_of_long, long_of_moment}
use Rattle.bf_moment.proofs.laws.long_form_is_what_is_written.Goals as goal

pub returns : goal.returns
returns c = λ text. (moment_of_long text, long_of_moment text)
