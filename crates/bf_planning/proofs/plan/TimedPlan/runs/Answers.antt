use Rattle.std.proofs.Common.{rules, ◌≡◌, false, length, Ok, sym, ◌∙◌, true≢false}
use Rattle.bf_planning.specs.Lists.{HasListing}
use Rattle.bf_planning.proofs.Faults.{range_fault}
use Rattle.bf_planning.proofs.ListedIntervals.{listing, none_listed, some_listed}
use Rattle.bf_planning.proofs.Results.{handed_on}
use Rattle.bf_planning.proofs.plan.TimedPlan.runs.Goals as goal
use Rattle.bf_planning.proofs.plan.TimedPlan.runs.Goals.{else-range-via-then-range+else-count-eq0, else-range-via-else-range}

pub returns-in_err-runs-clause-fault : goal.returns-in_err-runs-clause-fault
returns-in_err-runs-clause-fault c =
    let listed = c.in_err-runs.ensures in
    handed_on _ _ c.from_residual.ensures.1 (λ graph file timed. range_fault graph file _ c.in_err-runs.field-0.0 (listing listed.0 timed listed.1 listed.2))

pub returns-then-count-eq0-clause-fault : goal.returns-then-count-eq0-clause-fault
returns-then-count-eq0-clause-fault c graph file timed =
    let listed = c.in_ok-runs.ensures in
    let none : length c.in_ok-runs.runs ≡ 0 = search rules in
    none_listed listed.0 c.in_ok-runs.runs timed listed.1 listed.2 c.if-range.true none

pub returns-clause-ok : goal.returns-clause-ok
returns-clause-ok c graph file timed =
    let listed = c.in_ok-runs.ensures in
    elim c.else-range.branch as (λ _. HasListing graph file c.args.range (Ok c.in_ok-runs.runs)) [
      | else-range-via-then-range+else-count-eq0 w ↦ let some : ¬ (length c.in_ok-runs.runs ≡ 0) = search rules in some_listed listed.0 c.in_ok-runs.runs timed listed.1 listed.2 (λ wanted. some)
      | else-range-via-else-range w ↦ let needless : c.args.range.some ≡ false = search rules in
          some_listed listed.0 c.in_ok-runs.runs timed listed.1 listed.2 (λ wanted none. absurd (true≢false (sym wanted ∙ needless)))
    ]
