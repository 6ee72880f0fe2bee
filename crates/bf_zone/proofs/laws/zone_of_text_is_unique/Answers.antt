use Rattle.bf_zone.proofs.SameZone.{same_instants}
use Rattle.bf_zone.proofs.laws.zone_of_text_is_unique.Goals as goal

pub returns : goal.returns
returns c = same_instants
