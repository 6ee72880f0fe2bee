use Rattle.std.proofs.Common.{◌≡◌, ap, Some, sym, subst, ◌∙◌, true≢false, arith}
use Rattle.bf_plan.proofs.ListLemmas.{some_same}
use Rattle.bf_report_reader.proofs.Splits.{none_stands, cut_once}
use Rattle.bf_report_reader.proofs.Words.{moment_plain}
use Rattle.std.proofs.lemmas.Int.{ints}
use Rattle.bf_interval.specs.Years.{IsInYears}
use Rattle.bf_report_reader.proofs.Spelled.{run_fields}
use Rattle.bf_report_reader.proofs.interval.interval_and_state_in.Goals as goal
use Rattle.bf_report_reader.proofs.interval.interval_and_state_in.Goals.{then-gt-via-then-gt, then-gt-via-else-gt+then-not-is_in_years}

pub returns-in_err-end-clause-every : goal.returns-in_err-end-clause-every
returns-in_err-end-clause-every c = λ p says.
    let (first, more) = cut_once 32 c.in_ok-start.start.now _ c.in_ok-start.rest.now _ c.in_ok-start.ensures.word (moment_plain p.0.start.nanosecond).0 (sym c.in_ok-start.ensures.some ∙ says.1) in
    absurd (none_stands 32 c.in_ok-start.rest.now _ _ c.in_err-end.ensures.none more)

pub returns-in_err-start-2-clause-every : goal.returns-in_err-start-2-clause-every
returns-in_err-start-2-clause-every c = λ p says.
    let (start, end, state) = run_fields p c.args.text.now _ _ _ _ c.in_ok-start.ensures.word c.in_ok-start.ensures.some c.in_ok-end.ensures.word c.in_ok-end.ensures.some says.1 in
    let none = c.in_err-start-2.ensures.every p.0.start (says.0.start, start) in absurd (cc none)

pub returns-in_err-end-2-clause-every : goal.returns-in_err-end-2-clause-every
returns-in_err-end-2-clause-every c = λ p says.
    let (start, end, state) = run_fields p c.args.text.now _ _ _ _ c.in_ok-start.ensures.word c.in_ok-start.ensures.some c.in_ok-end.ensures.word c.in_ok-end.ensures.some says.1 in
    let none = c.in_err-end-2.ensures.every p.0.end (says.0.end, end) in absurd (cc none)

pub returns-in_err-state-clause-every : goal.returns-in_err-state-clause-every
returns-in_err-state-clause-every c = λ p says.
    let (start, end, state) = run_fields p c.args.text.now _ _ _ _ c.in_ok-start.ensures.word c.in_ok-start.ensures.some c.in_ok-end.ensures.word c.in_ok-end.ensures.some says.1 in
    let none = c.in_err-state.ensures.every p.1 state in absurd (cc none)

pub returns-then-gt-clause-every : goal.returns-then-gt-clause-every
returns-then-gt-clause-every c = λ p says.
    let (start, end, state) = run_fields p c.args.text.now _ _ _ _ c.in_ok-start.ensures.word c.in_ok-start.ensures.some c.in_ok-end.ensures.word c.in_ok-end.ensures.some says.1 in
    let first = c.in_ok-start-2.ensures.every p.0.start (says.0.start, start) in
    let last = c.in_ok-end-2.ensures.every p.0.end (says.0.end, end) in
    let same : c.in_ok-start-2.start ≡ p.0.start = some_same first in
    let ends : c.in_ok-end-2.end ≡ p.0.end = some_same last in
    elim c.then-gt.branch [
      | then-gt-via-then-gt w ↦ absurd (grind (arith, ints, ap (λ t. t.nanosecond) same, ap (λ t. t.nanosecond) ends, says.0.in_order, w.if-gt.ensures))
      | then-gt-via-else-gt+then-not-is_in_years w ↦ absurd (true≢false (sym (w.is_in_years.ensures.1 (subst (λ t. IsInYears t.nanosecond) (sym same) says.0.in_years)) ∙ w.if-not-is_in_years.true))
    ]

pub returns-clause-every : goal.returns-clause-every
returns-clause-every c = λ p says.
    let (start, end, state) = run_fields p c.args.text.now _ _ _ _ c.in_ok-start.ensures.word c.in_ok-start.ensures.some c.in_ok-end.ensures.word c.in_ok-end.ensures.some says.1 in
    let first = c.in_ok-start-2.ensures.every p.0.start (says.0.start, start) in
    let last = c.in_ok-end-2.ensures.every p.0.end (says.0.end, end) in
    let how = c.in_ok-state.ensures.every p.1 state in
    ap Some (λ k. (record { start = some_same first k; end = some_same last k }, some_same how k))
