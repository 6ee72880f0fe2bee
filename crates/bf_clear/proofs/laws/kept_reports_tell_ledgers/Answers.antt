use Rattle.bf_clear.proofs.SameRuns.{kept_tells}
use Rattle.bf_clear.proofs.laws.kept_reports_tell_ledgers.Goals as goal

pub returns : goal.returns
returns c = kept_tells
