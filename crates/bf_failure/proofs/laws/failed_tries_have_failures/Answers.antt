use Rattle.bf_failure.proofs.Failed.{failures_agree}
use Rattle.bf_failure.proofs.laws.failed_tries_have_failures.Goals as goal

pub returns : goal.returns
returns c = failures_agree
