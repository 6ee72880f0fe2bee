-- The plan of a line's graph file.
use Rattle.std.specs.Prelude.{◌≡◌}
use Rattle.bf_command_line.specs.declared.forms.GraphAsked.{GraphAsked}
use Rattle.bf_disk.specs.Files.{Files}
use Rattle.bf_input.specs.Inputs.{OfFiles}
use Rattle.bf_planning.specs.Graphs.{IsPlanOf, IsTimed}
use Rattle.bf_views.specs.declared.planned.Planned.{Planned}

-- the bytes of the graph file, and the plan that they say
abbrev pub IsPlanned : Files → GraphAsked → Planned → Type 0
IsPlanned files asked planned =
    OfFiles files asked (λ graph zone. (planned.graph.items ≡ graph)
    × IsPlanOf graph zone planned.timed.plan)

-- and its zone
abbrev pub HasZoneOf : Files → GraphAsked → Planned → Type 0
HasZoneOf files asked planned = OfFiles files asked (λ graph zone.
    IsTimed graph zone planned.timed.plan.schedule planned.timed.zone)
