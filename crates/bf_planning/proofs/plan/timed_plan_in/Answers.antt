use Rattle.std.proofs.Common.{subst}
use Rattle.bf_plan.specs.Sound.{IsSound}
use Rattle.bf_planning.specs.Graphs.{IsGraph}
use Rattle.bf_planning.proofs.Faults.{check_fault}
use Rattle.bf_planning.proofs.Results.{handed_on}
use Rattle.bf_planning.proofs.plan.timed_plan_in.Goals as goal

pub returns-in_err-draft-clause-fault : goal.returns-in_err-draft-clause-fault
returns-in_err-draft-clause-fault c = handed_on _ _ c.from_residual.ensures.1 (c.in_err-draft.ensures.fault _)

pub returns-in_err-plan-clause-fault : goal.returns-in_err-plan-clause-fault
returns-in_err-plan-clause-fault c = handed_on _ _ c.from_residual-in_err-plan.ensures.1 (check_fault c.args.graph.now _ c.in_ok-draft.draft c.in_ok-draft.ensures.ok _ c.in_err-plan.ensures.fault)

pub returns : goal.returns
returns c =
    let is : IsGraph c.args.graph.now _ c.in_ok-draft.draft = record { says = c.in_ok-draft.ensures.ok; accepted = c.in_ok-plan.ensures.accepted; sound = subst IsSound c.in_ok-plan.ensures.dag c.dag-sound.ensures.sound } in
    record {
      plan = record { draft = c.in_ok-draft.draft; graph_is = is; dag = c.in_ok-plan.ensures.dag };
      zone = record { draft = c.in_ok-draft.draft; graph_is = is; fires = c.in_ok-plan.ensures.schedule; zone_is = c.in_ok-plan.ensures.zone };
      fault = tt;
    }
