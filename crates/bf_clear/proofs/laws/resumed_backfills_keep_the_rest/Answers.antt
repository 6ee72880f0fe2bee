use Rattle.bf_clear.proofs.Rests.{rest_kept}
use Rattle.bf_clear.proofs.laws.resumed_backfills_keep_the_rest.Goals as goal

pub returns : goal.returns
returns c = rest_kept
