use Rattle.bf_moment.proofs.OneText.{one_text}
use Rattle.bf_moment.proofs.laws.moments_differ_in_text.Goals as goal

pub returns : goal.returns
returns c = one_text
