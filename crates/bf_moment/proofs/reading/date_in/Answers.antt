use Rattle.std.proofs.Common.{arith, get_or, unsigned_abs}
use Rattle.std.proofs.lemmas.Int.{ints}
use Rattle.std.proofs.lemmas.Slice.Eq.{text_from_reads}
use Rattle.bf_moment.proofs.Spelling.{spelled, spelled_year, year_read}
use Rattle.bf_moment.proofs.reading.date_in.Goals as goal

pub returns-in_err-year-clause-none : goal.returns-in_err-year-clause-none
returns-in_err-year-clause-none c =
    rw c.from_residual.ensures (λ d shown e. c.in_err-year.ensures.none (unsigned_abs d.year) (omega (arith, ints)) (year_read (unsigned_abs d.year) _ _ e))

pub returns-in-Ok-clause-found : goal.returns-in-Ok-clause-found
returns-in-Ok-clause-found c =
    let text = c.args.text.now in
    let (y, m, d) = c.in-Ok.ensures.value in
    let small = c.in_ok-year.ensures.found.0 in
    let year = spelled_year _ (unsigned_abs c.in-Ok.date.year) (get_or text 0 0) (get_or text 1 0) (get_or text 2 0) (get_or text 3 0) c.in_ok-year.ensures.found.1 (omega (arith, ints, y, small)) in
    let month = spelled _ c.in-Ok.date.month (get_or text 5 0) (get_or text 6 0) c.in_ok-month.ensures.found.1 (omega (arith, ints, m, c.in_ok-month.ensures.found.0)) in
    let day = spelled _ c.in-Ok.date.day (get_or text 8 0) (get_or text 9 0) c.in_ok-day.ensures.found.1 (omega (arith, ints, d, c.in_ok-day.ensures.found.0)) in
    (omega (arith, ints, y, small), text_from_reads text _ (omega arith) (year.0, (year.1, (year.2, (year.3, (omega arith, (month.0, (month.1, (omega arith, (day.0, (day.1, tt)))))))))))
