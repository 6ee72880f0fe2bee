use Rattle.bf_check.proofs.checking.check.Goals as goal

pub returns-clause-accepted : goal.returns-clause-accepted
returns-clause-accepted c =
    let parts = c.in_ok-parts.parts in
    let are = c.in_ok-parts.ensures in
    record { graph = are.ok; scheduled = record { spec = parts.rest.schedule; fires = are.schedule; zone = parts.rest.zone; zone_is = are.zone } }

pub returns-clause-zone : goal.returns-clause-zone
returns-clause-zone c = rw c.in_ok-plan_of_parts.ensures.zone c.in_ok-parts.ensures.zone
