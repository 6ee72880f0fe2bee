use Rattle.bf_page.proofs.SafeFacts.{read_back}
use Rattle.bf_page.proofs.laws.texts_are_read_back.Goals as goal

pub returns : goal.returns
returns c = read_back
