use Rattle.std.proofs.Common.{◌≡◌, pos, arith, rules, unsigned_abs}
use Rattle.std.proofs.lemmas.Int.{ints}
use Rattle.std.proofs.lemmas.Result.{err_from_is_err_and}
use Rattle.jiff.specs.Words.{plain_zone}
use Rattle.bf_days.specs.Listing.{AreDays}
use Rattle.bf_days.proofs.Margins.{answer_on, nothing, on_days}
use Rattle.bf_days.proofs.OfRuns.{of_runs}
use Rattle.bf_days.proofs.listing.intervals_on.Goals as goal

pub returns-in_err-push_intervals_between-clause-answer : goal.returns-in_err-push_intervals_between-clause-answer
returns-in_err-push_intervals_between-clause-answer c =
    let spec = c.args.spec.now in
    let zone = plain_zone c.args.zone.now in
    let days = c.args.days in
    let from = c.saturating_sub-from.result in
    let are : AreDays days = record { first_in_years = search rules; last_in_years = search rules; in_order = search rules } in
    let why = c.in_err-push_intervals_between.ensures.err from (omega arith) (nothing spec zone days from c.new-found.result.items c.new-found.ensures.items) in
    let p = err_from_is_err_and c.from_residual.result c.from_residual.ensures.1 in
    rw (p.1, p.2) (answer_on spec zone days c.in_err-push_intervals_between.field-0.0 are why)

pub returns-clause-answer : goal.returns-clause-answer
returns-clause-answer c =
    let spec = c.args.spec.now in
    let zone = plain_zone c.args.zone.now in
    let days = c.args.days in
    let from = c.saturating_sub-from.result in
    let are : AreDays days = record { first_in_years = search rules; last_in_years = search rules; in_order = search rules } in
    let between = c.in_ok-push_intervals_between.ensures.ok from (omega arith) (nothing spec zone days from c.new-found.result.items c.new-found.ensures.items) in
    let first : days.first ≡ pos (unsigned_abs days.first) = omega (arith, ints, are.first_in_years.0) in
    let last : days.last ≡ pos (unsigned_abs days.last) = omega (arith, ints, are.last_in_years.0) in (
      are,
      c.in_ok-push_intervals_between.ensures.few,
      on_days spec zone days from c.min-to.result (unsigned_abs days.first) (unsigned_abs days.last) c.push_intervals_between.new.found.items first last
          (omega (arith, ints, c.saturating_sub-from.ensures, are.first_in_years.0, are.first_in_years.1)) (omega (arith, ints, c.min-to.ensures, are.last_in_years.0, are.last_in_years.1)) between,
    )

pub returns-clause-of_runs : goal.returns-clause-of_runs
returns-clause-of_runs c = λ said.
    let spec = c.args.spec.now in
    let zone = plain_zone c.args.zone.now in
    let days = c.args.days in
    let from = c.saturating_sub-from.result in
    let are : AreDays days = record { first_in_years = search rules; last_in_years = search rules; in_order = search rules } in
    let between = c.in_ok-push_intervals_between.ensures.ok from (omega arith) (nothing spec zone days from c.new-found.result.items c.new-found.ensures.items) in
    let first : days.first ≡ pos (unsigned_abs days.first) = omega (arith, ints, are.first_in_years.0) in
    let last : days.last ≡ pos (unsigned_abs days.last) = omega (arith, ints, are.last_in_years.0) in
    of_runs spec zone days c.push_intervals_between.new.found.items said c.in_ok-push_intervals_between.ensures.few
    (on_days spec zone days from c.min-to.result (unsigned_abs days.first) (unsigned_abs days.last) c.push_intervals_between.new.found.items first last
    (omega (arith, ints, c.saturating_sub-from.ensures, are.first_in_years.0, are.first_in_years.1)) (omega (arith, ints, c.min-to.ensures, are.last_in_years.0, are.last_in_years.1)) between)
