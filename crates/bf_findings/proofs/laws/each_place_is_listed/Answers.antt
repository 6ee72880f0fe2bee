use Rattle.bf_findings.proofs.Everywhere.{each_place}
use Rattle.bf_findings.proofs.laws.each_place_is_listed.Goals as goal

pub returns : goal.returns
returns c = each_place
