use Rattle.bf_moment.proofs.Spelling.{clock_read}
use Rattle.bf_moment.proofs.reading.clock_in.Goals as goal

pub returns-clause-found : goal.returns-clause-found
returns-clause-found c =
    let date = c.in_ok-date-2.ensures.found in
    let time = c.in_ok-time.ensures.found in
    clock_read c.args.text.now c.in_ok-date-2.date c.in_ok-time.time c.to_datetime.result
    c.to_datetime.ensures.date c.to_datetime.ensures.time date.0 time.0 c.if-text-ne20.false date.1 c.if-text-ne84.false time.1 c.if-text-ne90.false
