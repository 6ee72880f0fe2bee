use Rattle.std.proofs.lemmas.Result.{IfOk-weaker}
use Rattle.jiff.specs.ZoneView.{plain_zone}
use Rattle.bf_planning.proofs.ListedIntervals.{clocks_are}
use Rattle.bf_planning.proofs.plan.TimedPlan.clocks.Goals as goal

pub returns : goal.returns
returns c = IfOk-weaker c.clocks_of.result _ _ (λ clocks is graph file timed. clocks_are (plain_zone c.as_time_zone-zone.result) timed c.as_time_zone-zone.ensures is) c.clocks_of.ensures
