use Rattle.std.proofs.Common.{◌≡◌, ◌++◌, ◌+◌, ◌-◌, ◌/◌, ◌≤◌, ℕ, filter, arith, rules}
use Rattle.jiff.specs.Words.{plain_zone}
use Rattle.bf_interval.specs.declared.fault.IntervalFault.{IntervalFault}
use Rattle.bf_interval.specs.declared.fault.IntervalFault.TheVariants.{TooManyRuns}
use Rattle.bf_days.specs.Listing.{AreIntervalsBetween}
use Rattle.bf_days.specs.inner.Listing.{are_on, IsAddFault, IsKeptFault}
use Rattle.bf_days.proofs.Keeping.{added, not_added, two_from, on_ok, if_err}
use Rattle.bf_days.proofs.listing.Search.+push_intervals_between.Goals as goal

pub returns-in-Ok-clause-ok : goal.returns-in-Ok-clause-ok
returns-in-Ok-clause-ok t c =
    let spec = c.args.self.spec.now in
    let zone = plain_zone c.args.self.zone.now in
    let days = c.args.self.days in
    let old = c.args.found.now.items in
    let listed = c.as_slice.result.now in
    let new = c.push_those_on_days.new.found.items in
    let P : Type 0 = new ≡ old ++ filter (are_on zone days) listed in
    let Q : Type 0 = (low : ℕ) → low ≤ c.args.from → AreIntervalsBetween spec zone days low c.args.from old → AreIntervalsBetween spec zone days low c.args.to new in
    on_ok {P = P} {Q = Q} c.push_those_on_days.result c.push_those_on_days.ensures.ok (λ e low lower are.
    added spec zone days low c.args.from c.args.to c.moment_of_nanosecond.result.nanosecond c.moment_of_nanosecond-2.result.nanosecond old c.in-Ok.listed.items listed new c.requires.some c.requires.in_years
    (record { first = c.moment_of_nanosecond.ensures; last = c.moment_of_nanosecond-2.ensures; listed = c.in-Ok.ensures.2; same = c.as_slice.ensures.value }) e lower are)

pub returns-in-Ok-clause-err : goal.returns-in-Ok-clause-err
returns-in-Ok-clause-err t c =
    let spec = c.args.self.spec.now in
    let zone = plain_zone c.args.self.zone.now in
    let days = c.args.self.days in
    let old = c.args.found.now.items in
    let listed = c.as_slice.result.now in
    let P : IntervalFault → Type 0 = IsKeptFault (are_on zone days) old listed in
    let Q : IntervalFault → Type 0 = λ fault. (low : ℕ) → low ≤ c.args.from → AreIntervalsBetween spec zone days low c.args.from old → IsAddFault spec zone days fault in
    if_err {P = P} {Q = Q} c.push_those_on_days.result c.push_those_on_days.ensures.err (λ fault why low lower are.
    not_added spec zone days low c.args.from c.args.to c.moment_of_nanosecond.result.nanosecond c.moment_of_nanosecond-2.result.nanosecond old c.in-Ok.listed.items listed fault c.requires.some c.requires.in_years
    (record { first = c.moment_of_nanosecond.ensures; last = c.moment_of_nanosecond-2.ensures; listed = c.in-Ok.ensures.2; same = c.as_slice.ensures.value }) why lower are)

pub push_intervals_between-requires : goal.push_intervals_between-requires
push_intervals_between-requires t c =
    let many : c.in-Err.fault ≡ TooManyRuns = first_of (search rules, grind arith) in
    let two = two_from c.args.self.spec.now (plain_zone c.args.self.zone.now) c.args.from c.args.to c.moment_of_nanosecond.result.nanosecond c.moment_of_nanosecond-2.result.nanosecond c.in-Err.fault many c.moment_of_nanosecond.ensures c.moment_of_nanosecond-2.ensures c.requires.some c.in-Err.ensures in
    (omega arith, (c.requires.few, (omega arith, omega arith)))

pub push_intervals_between-requires-2 : goal.push_intervals_between-requires-2
push_intervals_between-requires-2 t c =
    let many : c.in-Err.fault ≡ TooManyRuns = first_of (search rules, grind arith) in
    let two = two_from c.args.self.spec.now (plain_zone c.args.self.zone.now) c.args.from c.args.to c.moment_of_nanosecond.result.nanosecond c.moment_of_nanosecond-2.result.nanosecond c.in-Err.fault many c.moment_of_nanosecond.ensures c.moment_of_nanosecond-2.ensures c.requires.some c.in-Err.ensures in
    (omega arith, (c.in_ok-push_intervals_between.ensures.few, (omega arith, c.requires.in_years)))

pub returns-clause-ok : goal.returns-clause-ok
returns-clause-ok t c =
    let spec = c.args.self.spec.now in
    let zone = plain_zone c.args.self.zone.now in
    let days = c.args.self.days in
    let middle = c.args.from + (c.args.to - c.args.from) / 2 in
    let halfway = c.push_intervals_between.new.found.items in
    let new = c.push_intervals_between-2.new.found.items in
    let P : Type 0 = (low : ℕ) → low ≤ middle → AreIntervalsBetween spec zone days low middle halfway → AreIntervalsBetween spec zone days low c.args.to new in
    let Q : Type 0 = (low : ℕ) → low ≤ c.args.from → AreIntervalsBetween spec zone days low c.args.from c.args.found.now.items → AreIntervalsBetween spec zone days low c.args.to new in
    on_ok {P = P} {Q = Q} c.push_intervals_between-2.result c.push_intervals_between-2.ensures.ok (λ rest low lower are. rest low (omega arith) (c.in_ok-push_intervals_between.ensures.ok low lower are))

pub returns-clause-err : goal.returns-clause-err
returns-clause-err t c =
    let spec = c.args.self.spec.now in
    let zone = plain_zone c.args.self.zone.now in
    let days = c.args.self.days in
    let middle = c.args.from + (c.args.to - c.args.from) / 2 in
    let halfway = c.push_intervals_between.new.found.items in
    let P : IntervalFault → Type 0 = λ fault. (low : ℕ) → low ≤ middle → AreIntervalsBetween spec zone days low middle halfway → IsAddFault spec zone days fault in
    let Q : IntervalFault → Type 0 = λ fault. (low : ℕ) → low ≤ c.args.from → AreIntervalsBetween spec zone days low c.args.from c.args.found.now.items → IsAddFault spec zone days fault in
    if_err {P = P} {Q = Q} c.push_intervals_between-2.result c.push_intervals_between-2.ensures.err (λ fault why low lower are. why low (omega arith) (c.in_ok-push_intervals_between.ensures.ok low lower are))
