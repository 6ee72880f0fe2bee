use Rattle.std.proofs.Common.{◌≡◌, ◌<◌, nat_lt, true, sym, ◌∙◌, arith, true≢false}
use Rattle.std.proofs.lemmas.Bool.Decides.{nat_tests}
use Rattle.bf_core.specs.Events.{next_run}
use Rattle.bf_due.proofs.Settling.{settles_now}
use Rattle.bf_due.proofs.pruning.is_noted_to_settle.Goals.{else-awaits_decision, else-run-opened_runs, then-awaits_decision, then-run-opened_runs}
use Rattle.bf_due.proofs.pruning.is_noted_to_settle.Goals as goal

pub returns-then-waits_for_upstreams_alone : goal.returns-then-waits_for_upstreams_alone
returns-then-waits_for_upstreams_alone c = λ noted free. elim c.if-awaits_decision.branch [
  | then-awaits_decision w ↦ elim c.if-run-opened_runs.branch [
    | then-run-opened_runs o ↦
        let opened : c.args.run < next_run c.args.core.now.state = omega (arith, o.if-run-opened_runs.true, c.opened_runs.ensures.next) in
        let undecided : _ = o.awaits_decision.ensures.0 (sym o.value-is ∙ w.if-awaits_decision.true) in
        settles_now c.args.core.now c.journal-replayed.ensures.replayed c.args.run c.args.task opened undecided.0 undecided.1 (w.waits_for_upstreams_alone.ensures (sym w.value-is ∙ c.if-waits_for_upstreams_alone.true)) (c.is_noted_to_be_free.ensures noted free)
    | else-run-opened_runs o ↦
        let yes : nat_lt c.args.run c.opened_runs.result ≡ true = sym o.value-is ∙ w.if-awaits_decision.true in
        absurd (grind (arith, nat_tests, yes, o.if-run-opened_runs.false))
  ]
  | else-awaits_decision w ↦ absurd (true≢false (sym c.if-waits_for_upstreams_alone.true ∙ (w.value-is ∙ w.if-awaits_decision.false)))
]
