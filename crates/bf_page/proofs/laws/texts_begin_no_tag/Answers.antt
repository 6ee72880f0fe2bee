use Rattle.bf_page.proofs.SafeFacts.{all_tame}
use Rattle.bf_page.proofs.laws.texts_begin_no_tag.Goals as goal

pub returns : goal.returns
returns c = all_tame
