-- Why the command `show` comes to no grid.
use Rattle.std.specs.Prelude.{◌≡◌, ◌⊎◌, false, true, string_bytes}
use Rattle.bf_interval.specs.declared.fault.IntervalFault.{IntervalFault}
use Rattle.bf_command_line.specs.declared.forms.ShowAsked.{ShowAsked}
use Rattle.bf_command_fault.specs.declared.fault.CommandFault.{CommandFault}
use Rattle.bf_command_fault.specs.declared.fault.CommandFault.TheVariants.{BadMoment, Range as BadRange}
use Rattle.bf_command_fault.specs.declared.range.RangeFault.TheVariants.{Unlisted}
use Rattle.bf_disk.specs.Files.{Files}
use Rattle.bf_views.specs.declared.bounds.Bounds.{Bounds}
use Rattle.bf_views.specs.Bounds.{HasNoBound, MeansBounds, is_reversed_in}
use Rattle.bf_views.specs.Planned.{HasGraph, IsPlanningFault}
use Rattle.bf_views.specs.Reported.{IsReportedFault}

-- the fault is the first of the graph's files and the graph; or that the first moment lies after the last; or the first of the report's
-- file and the report, or that it isn't one of the graph; or memory or the device is wanting
abbrev pub IsGridFaultIn : Files → ShowAsked → Bounds → CommandFault → Type 0
IsGridFaultIn files asked bounds (BadRange (Unlisted IntervalFault.RangeReversed)) =
    HasGraph files asked.graph × (is_reversed_in bounds ≡ true)
IsGridFaultIn files asked bounds fault = IsPlanningFault files asked.graph fault
    ⊎ ((is_reversed_in bounds ≡ false)
    × IsReportedFault files asked.graph (string_bytes asked.report) fault)

-- moments come first: a text is no moment; or they mean some, and the fault is the first of the rest
abbrev pub IsGridFault : Files → ShowAsked → CommandFault → Type 0
IsGridFault files asked BadMoment = HasNoBound asked
IsGridFault files asked fault =
    (bounds : Bounds) × MeansBounds asked bounds × IsGridFaultIn files asked bounds fault
