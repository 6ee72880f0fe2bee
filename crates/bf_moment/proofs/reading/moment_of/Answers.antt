use Rattle.std.proofs.Common.{arith}
use Rattle.jiff_core.proofs.SignedLemmas.{signed_arith}
use Rattle.jiff_core.specs.DateTime.{civil_nanos}
use Rattle.bf_moment.proofs.ClockFacts.{range_of_clock, nearest_is}
use Rattle.bf_moment.proofs.reading.moment_of.Goals as goal

pub returns-in-Err : goal.returns-in-Err
returns-in-Err c =
    let range = range_of_clock c.args.at c.requires in
    nearest_is (civil_nanos c.args.at) (omega (arith, signed_arith, range.0)) (λ inside. absurd (cc (c.in-Err.ensures.succeeds.1 (omega (arith, signed_arith, inside.0), omega (arith, signed_arith, inside.1)))))
