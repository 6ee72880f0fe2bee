use Rattle.bf_zone.proofs.Spelled.{offset_written, offset_read}
use Rattle.bf_zone.proofs.laws.offsets_are_read_as_written.Goals as goal

pub returns : goal.returns
returns c = λ text n. (offset_written text n, offset_read text n)
