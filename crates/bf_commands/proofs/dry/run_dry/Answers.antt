use Rattle.bf_commands.proofs.dry.run_dry.Goals as goal

pub write_dry-written-requires-clause-said : goal.write_dry-written-requires-clause-said
write_dry-written-requires-clause-said g c κs held = (c.in_ok-timed.ensures.zone.draft.schedule, c.in_ok-timed.ensures.zone.fires.says)

pub returns-clause-ok : goal.returns-clause-ok
returns-clause-ok g c = c.write_dry-written.ensures.ok c.args.graph.now _ (c.in_ok-timed.ensures.plan, c.in_ok-timed.ensures.zone)

pub returns-clause-fault : goal.returns-clause-fault
returns-clause-fault g c = c.write_dry-written.ensures.fault c.args.graph.now _ (c.in_ok-timed.ensures.plan, c.in_ok-timed.ensures.zone)

pub returns-clause-left : goal.returns-clause-left
returns-clause-left g c = c.write_dry-written.ensures.left c.args.graph.now _ (c.in_ok-timed.ensures.plan, c.in_ok-timed.ensures.zone)
