use Rattle.bf_show.proofs.ReadFacts.{instance_read}
use Rattle.bf_show.proofs.laws.instances_are_read_back.Goals as goal

pub returns : goal.returns
returns c = instance_read
