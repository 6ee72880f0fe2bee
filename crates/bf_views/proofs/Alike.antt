-- Files that say alike have one plan, and one fault.
use Rattle.std.proofs.Common.{◌≡◌, ℕ, List, Option, sym, subst, ◌∙◌}
use Rattle.bf_read.specs.declared.draft.Draft.{Draft}
use Rattle.bf_check.specs.declared.fault.CheckFault.{CheckFault}
use Rattle.bf_check.specs.declared.fault.CheckFault.TheVariants as check
use Rattle.bf_check.specs.Refusals.{IsAccepted, IsFaultOf}
use Rattle.bf_check.specs.Schedules.{IsScheduled}
use Rattle.bf_plan.specs.Checked.{Checked}
use Rattle.bf_command_fault.specs.declared.fault.CommandFault.{CommandFault}
use Rattle.bf_command_fault.specs.declared.fault.CommandFault.TheVariants.{Check, OutOfMemory, Read}
use Rattle.bf_planning.specs.Graphs.{IsFaultIn, IsFileOf, IsGraph, IsPlanOf, IsTimed}
use Rattle.bf_planning.specs.declared.plan.TimedPlan.{TimedPlan}
use Rattle.bf_command_line.specs.declared.forms.GraphAsked.{GraphAsked}
use Rattle.bf_disk.specs.Files.{AreReadable, Files}
use Rattle.bf_input.specs.Inputs.{AreAlike, OfFiles, graph_paths}
use Rattle.bf_views.specs.Planned.{IsPlanningFault}

module _ (read held : List ℕ) (one two : Option (List ℕ)) (alike : AreAlike read held one two) where
  scheduled : (draft : Draft) → IsScheduled draft one → IsScheduled draft two
  scheduled draft is = record { spec = is.spec; fires = is.fires; zone = is.zone; zone_is = λ z lends. alike.means.to _ z (is.zone_is z lends) }

  accepted : (draft : Draft) → IsAccepted draft one → IsAccepted draft two
  accepted draft is = record { graph = is.graph; scheduled = scheduled draft is.scheduled }

  fault_of : (draft : Draft) (fault : CheckFault) → IsFaultOf draft one fault → IsFaultOf draft two fault
  fault_of draft (check.Task fault id) is = (is.0, is.1, λ late. scheduled draft (is.2 late))
  fault_of draft check.BadZone is = (λ z means. is.0 z (alike.means.back _ z means), is.1, is.2, is.3)
  fault_of draft fault is = is

  file_of : (draft : Draft) → IsFileOf read draft → IsFileOf held draft
  file_of draft is = sym alike.says ∙ is

  pub graph_of : (draft : Draft) → IsGraph read one draft → IsGraph held two draft
  graph_of draft is = record { says = file_of draft is.says; accepted = accepted draft is.accepted; sound = is.sound }

  pub fault_in : (fault : CommandFault) → IsFaultIn read one fault → IsFaultIn held two fault
  fault_in (Read fault) is = sym alike.says ∙ is
  fault_in (Check fault) is = (is.0, file_of is.0 is.1, fault_of is.0 fault is.2)
  fault_in fault is = is

  pub plan_of : (plan : Checked) → IsPlanOf read one plan → IsPlanOf held two plan
  plan_of plan is = record { draft = is.draft; graph_is = graph_of is.draft is.graph_is; dag = is.dag }

  pub timed_of : (timed : TimedPlan) → IsTimed read one timed.plan.schedule timed.zone → IsTimed held two timed.plan.schedule timed.zone
  timed_of timed is = record {
    draft = is.draft;
    graph_is = graph_of is.draft is.graph_is;
    fires = is.fires;
    zone_is = λ z lends. alike.means.to _ z (is.zone_is z lends);
  }

-- what is lent of files says as they do
pub lent : (files : Files) (asked : GraphAsked) (bytes lent_bytes : List ℕ) (mine lent_mine : Option (List ℕ)) → lent_bytes ≡ bytes → lent_mine ≡ mine →
    OfFiles files asked (λ graph held. AreAlike bytes graph mine held) → OfFiles files asked (λ graph held. AreAlike lent_bytes graph lent_mine held)
lent files asked bytes lent_bytes mine lent_mine same same_zone alike = λ graph held are.
    subst (λ (b : List ℕ). AreAlike b graph lent_mine held) (sym same) (subst (λ (z : Option (List ℕ)). AreAlike bytes graph z held) (sym same_zone) (alike graph held are))

module _ (files : Files) (asked : GraphAsked) (bytes : List ℕ) (zone : Option (List ℕ)) (readable : AreReadable files (graph_paths asked)) (alike : OfFiles files asked (λ graph held. AreAlike bytes graph zone held)) where
  pub timed_fault : (fault : CommandFault) → IsFaultIn bytes zone fault → IsPlanningFault files asked fault
  timed_fault (Read fault) is = (readable, λ graph held are. fault_in bytes graph zone held (alike graph held are) (Read fault) is)
  timed_fault (Check fault) is = (readable, λ graph held are. fault_in bytes graph zone held (alike graph held are) (Check fault) is)
  timed_fault OutOfMemory is = tt
  timed_fault _ is = absurd is
