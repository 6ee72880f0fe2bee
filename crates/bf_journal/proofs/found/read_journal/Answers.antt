use Rattle.std.specs.FinMap as map
use Rattle.bf_journal.specs.Tells.{records_in}
use Rattle.bf_journal.proofs.Lasting.{all_fit}
use Rattle.bf_journal.proofs.Passing.{told_of_tasks}
use Rattle.bf_journal.proofs.found.read_journal.Goals as goal

pub last_of-requires : goal.last_of-requires
last_of-requires c = told_of_tasks c.args.plan.now.dag c.args.runs.now (records_in c.in-Some.records.now) c.in_ok-tries.field-0.tries.items c.in_ok-tries.ensures.ok.told

pub returns-clause-fit : goal.returns-clause-fit
returns-clause-fit c = all_fit c.args.plan.now.dag c.in_ok-tries.field-0.tries.items (map.get c.in_ok-tries-2.tries) c.in_ok-tries-2.ensures
