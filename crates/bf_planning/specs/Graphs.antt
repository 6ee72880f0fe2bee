-- What the bytes of a graph file say, with a zone file: a plan, or why there is none.
use Rattle.std.specs.Prelude.{◌≡◌, ℕ, List, length, Option, Ok, Err}
use Rattle.bf_read.specs.declared.draft.Draft.{Draft}
use Rattle.bf_read.specs.Drafts.{number_of_edges}
use Rattle.bf_read.specs.Reading.{graph_in, graph_file_of}
use Rattle.bf_plan.specs.Checked.{Checked}
use Rattle.bf_plan.specs.Sound.{IsSound}
use Rattle.bf_check.specs.Checking.{dag_of}
use Rattle.bf_check.specs.Refusals.{IsAccepted, IsFaultOf}
use Rattle.bf_check.specs.Schedules.{Fires, IsZoneFor}
use Rattle.bf_cron.specs.declared.spec.CronSpec.{CronSpec}
use Rattle.bf_zone.specs.declared.zone.Zone.{Zone}
use Rattle.bf_command_fault.specs.declared.fault.CommandFault.{CommandFault}
use Rattle.bf_command_fault.specs.declared.fault.CommandFault.TheVariants.{Read, Check, OutOfMemory}
use Rattle.bf_planning.specs.declared.check.GraphSize.{GraphSize}

-- the graph's bytes say this
abbrev pub IsFileOf : List ℕ → Draft → Type 0
IsFileOf bytes draft = graph_in bytes ≡ Ok (graph_file_of draft)

-- the graph's bytes say a graph without a fault, with this zone file; so its tasks are sound
pub record IsGraph (graph : List ℕ) (file : Option (List ℕ)) (draft : Draft) : Type 0 where
  pub says : IsFileOf graph draft
  pub accepted : IsAccepted draft file
  pub sound : IsSound (dag_of draft)

-- the size of a graph: its tasks and its distinct edges
abbrev pub size_of : Draft → GraphSize
size_of draft = record { tasks = length draft.tasks; edges = number_of_edges draft.tasks }

-- the bytes say a graph without a fault, of this size
pub record IsSizeOf (graph : List ℕ) (file : Option (List ℕ)) (size : GraphSize) : Type 0 where
  pub draft : Draft
  pub graph_is : IsGraph graph file draft
  pub size_is : size ≡ size_of draft

-- the plan is that of a graph without a fault, which the bytes say
pub record IsPlanOf (graph : List ℕ) (file : Option (List ℕ)) (plan : Checked) : Type 0 where
  pub draft : Draft
  pub graph_is : IsGraph graph file draft
  pub dag : plan.dag ≡ dag_of draft

-- the schedule and the zone are those of a graph without a fault, which the bytes say
pub record IsTimed (graph : List ℕ) (file : Option (List ℕ)) (schedule : CronSpec)
    (zone : Zone) : Type 0 where
  pub draft : Draft
  pub graph_is : IsGraph graph file draft
  pub fires : Fires draft.schedule schedule
  pub zone_is : IsZoneFor draft.zone file zone

-- the fault is the first: those of the file go before those of the graph that it says; or memory is wanting
abbrev pub IsFaultIn : List ℕ → Option (List ℕ) → CommandFault → Type 0
IsFaultIn graph file (Read fault) = graph_in graph ≡ Err fault
IsFaultIn graph file (Check fault) =
    (draft : Draft) × IsFileOf graph draft × IsFaultOf draft file fault
IsFaultIn graph file OutOfMemory = Unit {0}
IsFaultIn graph file _ = ⊥
