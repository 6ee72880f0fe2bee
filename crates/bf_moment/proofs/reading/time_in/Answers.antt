use Rattle.std.proofs.Common.{arith, get_or}
use Rattle.std.proofs.lemmas.Int.{ints}
use Rattle.std.proofs.lemmas.Slice.Eq.{text_from_reads}
use Rattle.bf_moment.proofs.Spelling.{spelled}
use Rattle.bf_moment.proofs.reading.time_in.Goals as goal

pub returns-in-Ok-clause-found : goal.returns-in-Ok-clause-found
returns-in-Ok-clause-found c =
    let text = c.args.text.now in
    let (h, m, s, f) = c.in-Ok.ensures.value in
    let hour = spelled _ c.in-Ok.time.hour (get_or text 0 0) (get_or text 1 0) c.in_ok-hour.ensures.found.1 (omega (arith, ints, h, c.in_ok-hour.ensures.found.0)) in
    let minute = spelled _ c.in-Ok.time.minute (get_or text 3 0) (get_or text 4 0) c.in_ok-minute.ensures.found.1 (omega (arith, ints, m, c.in_ok-minute.ensures.found.0)) in
    let second = spelled _ c.in-Ok.time.second (get_or text 6 0) (get_or text 7 0) c.in_ok-second.ensures.found.1 (omega (arith, ints, s, c.in_ok-second.ensures.found.0)) in
    (omega (arith, ints, f), text_from_reads text _ (omega arith) (hour.0, (hour.1, (omega arith, (minute.0, (minute.1, (omega arith, (second.0, (second.1, tt)))))))))
