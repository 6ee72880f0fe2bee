use Rattle.std.proofs.Common.{◌≡◌, ◌∙◌, ap, sym, arith, ◌*◌, ◌+◌, true, inl, inr, refl}
use Rattle.std.proofs.lemmas.Bool.{cases_lt}
use Rattle.bf_cron.specs.Cron.{spec_has_date, spec_matches}
use Rattle.bf_cron.proofs.Dates.{on_date, date_fits, time_fits, both_fit}
use Rattle.bf_cron.proofs.spec.CronSpec.never_fires.Goals as goal

pub returns-in_default : goal.returns-in_default
returns-in_default c = (λ _ m at small shows fits. (let (day, time) = time_fits c.args.self.now at fits in c.in_default.ensures.none _ day time), λ _. refl)

pub returns-then-matches : goal.returns-then-matches
returns-then-matches c =
    let fits : spec_matches c.args.self.now c.minute_of.result ≡ true = sym c.matches.ensures.value ∙ c.if-matches.true in
    let shows = c.minute_of.ensures.minute c.loop-day.day c.date_of.ensures in
    let (small, time) = c.in-Some.ensures.some in
    (λ bad. absurd (cc), λ never. absurd (never (c.loop-day.day * 1_440 + c.in-Some.minute) c.minute_of.result (omega arith) shows fits))

pub loop-day-preserved : goal.loop-day-preserved
loop-day-preserved c = λ m at small shows fits.
    elim (cases_lt m (c.loop-day.day * 1_440)) [
      | inl l ↦ c.loop-day.invariant m at l shows fits
      | inr g ↦
          let (bound, time) = c.in-Some.ensures.some in
          let date = on_date c.date_of.result c.loop-day.day m at c.date_of.ensures shows g (omega arith) in
          let has : spec_has_date c.args.self.now c.date_of.result ≡ true = ap (spec_has_date c.args.self.now) (sym date) ∙ date_fits c.args.self.now at fits in
          let both = both_fit c.args.self.now c.minute_of.result c.date_of.result c.loop-day.day c.in-Some.minute c.date_of.ensures bound (c.minute_of.ensures.minute c.loop-day.day c.date_of.ensures) time has in
          let value = c.matches.ensures.value in
          let off = c.if-matches.false in
          absurd (cc)
    ]
