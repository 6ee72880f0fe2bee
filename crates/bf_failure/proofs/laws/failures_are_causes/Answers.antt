use Rattle.bf_failure.proofs.Caused.{failures_are_causes}
use Rattle.bf_failure.proofs.laws.failures_are_causes.Goals as goal

pub returns : goal.returns
returns c = failures_are_causes
