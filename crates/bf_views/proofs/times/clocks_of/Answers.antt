use Rattle.std.proofs.Common.{List, map, subst}
use Rattle.std.proofs.lemmas.Result.{IfOk-weaker}
use Rattle.bf_interval.specs.declared.interval.Interval.{Interval}
use Rattle.bf_planning.specs.Clocks.{AreClocksOf}
use Rattle.bf_views.proofs.times.clocks_of.Goals as goal

pub returns : goal.returns
returns c =
    IfOk-weaker c.clocks.result _ _
    (λ clocks are. λ graph file timed.
    subst (λ (runs : List Interval). AreClocksOf graph file runs (map (λ clock. clock.at.nanosecond) clocks.items)) c.in_ok-runs.ensures (are graph file timed))
    c.clocks.ensures
