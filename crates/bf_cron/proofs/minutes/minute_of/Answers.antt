use Rattle.std.proofs.Common.{◌≡◌, ◌*◌, arith}
use Rattle.std.proofs.lemmas.Int.{ints}
use Rattle.jiff.specs.Words.{time_nanos}
use Rattle.bf_cron.proofs.Dates.{minute_shown, time_shown}
use Rattle.bf_cron.proofs.minutes.minute_of.Goals as goal

pub returns-clause-time : goal.returns-clause-time
returns-clause-time c =
    let (h, m, s, f) = c.at.ensures.time in
    time_shown _ _ _ _ c.args.minute (omega (arith, ints, h)) (omega (arith, ints, m)) (omega (arith, ints, s)) (omega (arith, ints, f))

pub returns-clause-minute : goal.returns-clause-minute
returns-clause-minute c = λ day is.
    let (h, m, s, f) = c.at.ensures.time in
    let time : time_nanos c.at.result.time ≡ c.args.minute * 60_000_000_000 = time_shown _ _ _ _ c.args.minute (omega (arith, ints, h)) (omega (arith, ints, m)) (omega (arith, ints, s)) (omega (arith, ints, f)) in
    minute_shown c.args.date _ day c.args.minute is c.at.ensures.date time
