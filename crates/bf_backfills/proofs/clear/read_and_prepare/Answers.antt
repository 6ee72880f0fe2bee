use Rattle.std.proofs.Common.{inr}
use Rattle.bf_planning.proofs.Results.{handed_on}
use Rattle.bf_backfills.proofs.clear.read_and_prepare.Goals as goal

pub returns-in_err-prepared-clause-fault : goal.returns-in_err-prepared-clause-fault
returns-in_err-prepared-clause-fault g c =
    let fault : _ = rw (c.deref.ensures.value, c.zone_file.ensures, c.table.ensures) at c.in_err-prepared.ensures.fault in
    handed_on _ _ c.from_residual-in_err-prepared.ensures.1 (inr (c.in_ok-read.ensures.readable, record { graph = _; zone = _; table = _; alike = c.in_ok-read.ensures.alike; holds = fault }))

pub returns-clause-said : goal.returns-clause-said
returns-clause-said g c =
    let ok : _ = rw (c.deref.ensures.value, c.zone_file.ensures, c.table.ensures) at c.in_ok-prepared.ensures.ok in
    record { graph = _; zone = _; table = _; alike = c.in_ok-read.ensures.alike; holds = ok }
