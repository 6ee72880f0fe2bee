use Rattle.bf_planning.proofs.Faults.{read_fault}
use Rattle.bf_planning.proofs.Results.{handed_on}
use Rattle.bf_planning.proofs.plan.draft_in.Goals as goal

pub returns-in_err-draft-clause-fault : goal.returns-in_err-draft-clause-fault
returns-in_err-draft-clause-fault c = handed_on _ _ c.from_residual.ensures.1 (λ file. read_fault c.args.graph.now file _ c.in_err-draft.ensures)
