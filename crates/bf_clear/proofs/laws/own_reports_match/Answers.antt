use Rattle.bf_clear.proofs.Equations.{matches_plan}
use Rattle.bf_clear.proofs.Own.{own_report}
use Rattle.bf_clear.proofs.laws.own_reports_match.Goals as goal

pub returns : goal.returns
returns c = λ dag sound intervals ledger report dated. (matches_plan dag intervals report).0 (own_report dag sound intervals ledger report dated)
