use Rattle.bf_clear.proofs.Equations.{matches_plan}
use Rattle.bf_clear.proofs.laws.reports_match_by_equations.Goals as goal

pub returns : goal.returns
returns c = matches_plan
