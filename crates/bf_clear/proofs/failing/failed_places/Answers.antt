use Rattle.std.proofs.Common.{List, length, ap, ◌∙◌}
use Rattle.std.proofs.lemmas.Result.{IfOk-weaker}
use Rattle.bf_interval.specs.declared.interval.Interval.{Interval}
use Rattle.bf_core.specs.Terms.{Dag}
use Rattle.bf_clear.proofs.Failures.{listed_failed}
use Rattle.bf_clear.proofs.failing.failed_places.Goals as goal

pub returns : goal.returns
returns c =
    IfOk-weaker c.failed_in.result _ _
    (λ places is. listed_failed c.args.plan.now.dag c.args.runs.now c.args.report.now _ _ places.items is
    (ap (λ (is : List Interval). length is) c.intervals.ensures.intervals) (c.len-tasks.ensures ∙ ap (λ (d : Dag). length d.tasks) c.dag.ensures.dag))
    c.failed_in.ensures
