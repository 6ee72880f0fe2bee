use Rattle.std.proofs.Common.{arith}
use Rattle.bf_interval.proofs.Placing.{place_found, found_at}
use Rattle.bf_interval.proofs.rising.place_above.Goals as goal

pub returns-in-Ok-clause-below : goal.returns-in-Ok-clause-below
returns-in-Ok-clause-below c = (found_at c.args.numbers.now c.args.limit c.in-Ok.place c.requires c.in-Ok.ensures.position).0

pub returns-in-Ok-clause-above : goal.returns-in-Ok-clause-above
returns-in-Ok-clause-above c = (found_at c.args.numbers.now c.args.limit c.in-Ok.place c.requires c.in-Ok.ensures.position).1

pub returns-in-Err-clause-below : goal.returns-in-Err-clause-below
returns-in-Err-clause-below c = λ i before. omega (arith, (place_found c.args.numbers.now c.args.limit c.in-Err.place c.requires c.in-Err.ensures.position).below i before)

pub returns-in-Err-clause-above : goal.returns-in-Err-clause-above
returns-in-Err-clause-above c = (place_found c.args.numbers.now c.args.limit c.in-Err.place c.requires c.in-Err.ensures.position).above
