use Rattle.std.proofs.Common.{List, length, sym, subst}
use Rattle.bf_interval.specs.declared.interval.Interval.{Interval}
use Rattle.bf_dependents.specs.declared.place.Place.{Place}
use Rattle.bf_dependents.specs.Dependents.{AreDependents}
use Rattle.bf_clear.specs.inner.Entries.{IsWithin}
use Rattle.bf_clear.specs.Keeping.{AreKept, Clearance, kept_in}
use Rattle.bf_clear.proofs.LookupFacts.{kept_told}
use Rattle.bf_clear.proofs.clearing.clear_places_within.Goals as goal

pub returns-clause-kept : goal.returns-clause-kept
returns-clause-kept c =
    let dag = c.args.plan.now.dag in
    let intervals = c.intervals-intervals.result.now in
    let report = c.args.report in
    let places : List Place = c.args.places.now in
    let are : AreDependents dag places (length intervals) c.in_ok-cleared.cleared = c.in_ok-cleared.ensures in
    let within = subst (λ (found : List Interval). IsWithin dag (length found) report) (sym c.intervals-intervals.ensures.intervals) c.requires in
    subst (λ (k : Clearance). AreKept dag places report (kept_in k)) (sym c.new.ensures) (kept_told dag places (length intervals) c.in_ok-cleared.cleared report are within)

pub returns-clause-follows : goal.returns-clause-follows
returns-clause-follows c = rw (c.new.ensures, ← c.intervals-intervals.ensures.intervals) c.in_ok-cleared.ensures
