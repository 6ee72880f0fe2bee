use Rattle.std.proofs.Common.{ap, sym, ◌∙◌, subst}
use Rattle.bf_interval.specs.Runs.{AreOfRuns}
use Rattle.bf_views.specs.Matching.{intervals_in}
use Rattle.bf_views.proofs.RunFacts.{are_of_runs}
use Rattle.bf_views.proofs.times.runs_of.Goals as goal

pub from_intervals-requires : goal.from_intervals-requires
from_intervals-requires c = subst AreOfRuns (sym (c.in_ok-intervals.ensures ∙ ap intervals_in c.as_slice.ensures)) (are_of_runs c.args.report.now c.requires)
