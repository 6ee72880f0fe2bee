-- What the clocks of a graph's zone show at the starts of a report's runs.
use Rattle.std.specs.Prelude.{ℕ, ℤ, List, Option}
use Rattle.bf_planning.specs.Clocks.{AreClocksOf}
use Rattle.bf_planning.specs.Graphs.{IsTimed}
use Rattle.bf_planning.specs.declared.plan.TimedPlan.{TimedPlan}
use Rattle.bf_report.specs.declared.report.Report.{Report}
use Rattle.bf_views.specs.Matching.{intervals_in}

-- by the graph and the zone file that the plan is of
abbrev pub AreClocksBy : TimedPlan → Report → List ℤ → Type 0
AreClocksBy timed report clocks = (graph : List ℕ) (file : Option (List ℕ)) →
    IsTimed graph file timed.plan.schedule timed.zone
    → AreClocksOf graph file (intervals_in report.runs) clocks
