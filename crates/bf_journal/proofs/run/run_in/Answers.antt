use Rattle.std.proofs.Common.{◌≡◌, subst, sym, true}
use Rattle.bf_journal.specs.inner.Tells.{StartsAt}
use Rattle.bf_journal.proofs.Starting.{none_at, none_spelled, other_text}
use Rattle.bf_journal.proofs.run.run_in.Goals as goal

pub returns-in_err-run : goal.returns-in_err-run
returns-in_err-run c =
    rw c.from_residual-in_err-run.ensures
    (none_at c.args.runs.now c.intervals-intervals.ensures.of_runs c.args.text.now c.in_ok-moment.moment.nanosecond c.in_ok-moment.ensures.found c.in_err-run.ensures)

pub returns-then-starts_at : goal.returns-then-starts_at
returns-then-starts_at c = subst (λ o. StartsAt o c.args.text.now) c.interval_of_run.ensures.run (c.starts_at.ensures.0 c.if-starts_at.true)

pub returns-else-starts_at : goal.returns-else-starts_at
returns-else-starts_at c =
    other_text c.args.runs.now c.intervals-intervals.ensures.of_runs c.args.text.now c.in_ok-moment.moment.nanosecond c.in_ok-moment.ensures.found c.in_ok-run.run' c.in_ok-run.ensures
    (λ starts. let yes : c.starts_at.result ≡ true = c.starts_at.ensures.1 (subst (λ o. StartsAt o c.args.text.now) (sym c.interval_of_run.ensures.run) starts) in absurd (cc (yes, c.if-starts_at.false)))

pub returns-in_err-moment : goal.returns-in_err-moment
returns-in_err-moment c =
    rw c.from_residual.ensures (none_spelled c.args.runs.now c.intervals-intervals.ensures.of_runs c.args.text.now c.in_err-moment.ensures.none)
