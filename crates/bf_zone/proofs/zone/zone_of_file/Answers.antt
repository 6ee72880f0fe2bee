use Rattle.std.proofs.Common.{rules}
use Rattle.bf_zone.proofs.NoZone.{no_table}
use Rattle.bf_zone.proofs.zone.zone_of_file.Goals as goal

pub returns-in-Err : goal.returns-in-Err
returns-in-Err c = λ z. no_table c.args.bytes.now c.in-Err.field-0 z (search rules) c.in-Err.ensures.err
