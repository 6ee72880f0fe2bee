-- What clocks show at the moments of runs.
use Rattle.std.specs.Prelude.{◌≡◌, ℕ, ℤ, List, map, Option}
use Rattle.jiff.specs.Types.{TimeZone}
use Rattle.bf_zone.specs.Zones.{asked, IsZone}
use Rattle.bf_read.specs.declared.draft.Draft.{Draft}
use Rattle.bf_interval.specs.declared.interval.Interval.{Interval}
use Rattle.bf_process.specs.Clocks.{clock_in}
use Rattle.bf_planning.specs.declared.plan.DatedPlan.{DatedPlan}
use Rattle.bf_planning.specs.Graphs.{IsGraph}

-- this is what the clocks of the graph's zone show at the moments of these runs
pub record AreClocksOf (graph : List ℕ) (file : Option (List ℕ)) (found : List Interval)
    (clocks : List ℤ) : Type 0 where
  pub draft : Draft
  pub graph_is : IsGraph graph file draft
  pub zone : TimeZone
  pub zone_is : IsZone (asked draft.zone) file zone
  pub clocks_are : clocks ≡ map (λ run. clock_in zone run.start.nanosecond) found

-- what the clocks of a plan with its runs show
abbrev pub clocks_in : DatedPlan → List ℤ
clocks_in dated = map (λ clock. clock.at.nanosecond) dated.clocks.items
