-- What the command `list` prints: the data intervals of a graph's schedule that start in a range.
use Rattle.std.specs.Prelude.{◌≡◌, ◌⊎◌, ℕ, List, [], ◌∷◌, ◌++◌, Option, Result, Ok, Err}
use Rattle.std.specs.List.{flat_map}
use Rattle.jiff.specs.Types.{TimeZone}
use Rattle.bf_cron.specs.declared.spec.CronSpec.{CronSpec}
use Rattle.bf_zone.specs.Zones.{asked, IsZone}
use Rattle.bf_read.specs.declared.draft.Draft.{Draft}
use Rattle.bf_check.specs.Schedules.{Fires}
use Rattle.bf_interval.specs.declared.interval.Interval.{Interval}
use Rattle.bf_moment.specs.Moment.{moment_text}
use Rattle.bf_command_fault.specs.declared.fault.CommandFault.{CommandFault}
use Rattle.bf_command_fault.specs.declared.fault.CommandFault.TheVariants.{Range, OutOfMemory, CannotWrite}
use Rattle.bf_command_fault.specs.declared.range.RangeFault.{RangeFault}
use Rattle.bf_planning.specs.declared.range.RunRange.{RunRange}
use Rattle.bf_planning.specs.Graphs.{IsGraph, IsFaultIn}
use Rattle.bf_planning.specs.Ranges.{IsRangeAnswer}

-- the bytes say a graph without a fault, whose schedule in its zone has this answer for the range
pub record HasListing (graph : List ℕ) (file : Option (List ℕ)) (range : RunRange)
    (answer : Result (List Interval) RangeFault) : Type 0 where
  pub draft : Draft
  pub graph_is : IsGraph graph file draft
  pub schedule : CronSpec
  pub fires : Fires draft.schedule schedule
  pub zone : TimeZone
  pub zone_is : IsZone (asked draft.zone) file zone
  pub answers : IsRangeAnswer schedule zone range answer

-- a data interval: its start and its end
abbrev pub interval_line : Interval → List ℕ
interval_line i = moment_text i.start.nanosecond ++ 32 ∷ moment_text i.end.nanosecond ++ 10 ∷ []

abbrev pub intervals_text : List Interval → List ℕ
intervals_text intervals = flat_map interval_line intervals

-- the text has the lines of the data intervals
pub record IsListIn (graph : List ℕ) (file : Option (List ℕ)) (range : RunRange)
    (text : List ℕ) : Type 0 where
  pub found : List Interval
  pub listing : HasListing graph file range (Ok found)
  pub text_is : text ≡ intervals_text found

-- the fault is the first: those of the graph go before those of the range; or memory or the device is wanting
abbrev pub ListFault : List ℕ → Option (List ℕ) → RunRange → CommandFault → Type 0
ListFault graph file range (Range fault) = HasListing graph file range (Err fault)
ListFault graph file range (CannotWrite n) = Unit {0}
ListFault graph file range fault = IsFaultIn graph file fault

-- the fault is the one that the range has; or memory is wanting
abbrev pub IsRangeFault : List ℕ → Option (List ℕ) → RunRange → CommandFault → Type 0
IsRangeFault graph file range (Range fault) = HasListing graph file range (Err fault)
IsRangeFault graph file range OutOfMemory = Unit {0}
IsRangeFault graph file range _ = ⊥

-- the fault is one of the graph, or else of the range; or memory is wanting
abbrev pub IsDatedFault : List ℕ → Option (List ℕ) → RunRange → CommandFault → Type 0
IsDatedFault graph file range fault =
    IsFaultIn graph file fault ⊎ IsRangeFault graph file range fault
