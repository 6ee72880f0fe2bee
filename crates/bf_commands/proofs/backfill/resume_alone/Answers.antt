use Rattle.bf_commands.proofs.FromKept.{fault_weaker}
use Rattle.bf_commands.proofs.backfill.resume_alone.Goals as goal

pub stop_fault_alone-requires : goal.stop_fault_alone-requires
stop_fault_alone-requires g c = fault_weaker (λ n given may. may.1) _ (c.in-Err.ensures {u = tt}).err

pub returns-in-Ok-clause-end : goal.returns-in-Ok-clause-end
returns-in-Ok-clause-end g c =
    let is = c.in-Ok.ensures {u = tt} in
    record { of = is.of; again = is.again; anew = is.anew; all = is.all; within = is.workers }
