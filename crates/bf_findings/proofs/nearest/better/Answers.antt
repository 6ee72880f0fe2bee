use Rattle.std.proofs.Common.{◌∙◌}
use Rattle.bf_findings.proofs.nearest.better.Goals as goal

pub returns-in-Some : goal.returns-in-Some
returns-in-Some c = λ text names is e. c.nearer.ensures text names is (e ∙ c.in-Some.is)
