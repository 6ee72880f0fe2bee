use Rattle.std.proofs.Common.{ap}
use Rattle.bf_report_reader.specs.Open.{RunSoFar}
use Rattle.bf_report_reader.proofs.PartingFacts.{found_open, found_none}
use Rattle.bf_report_reader.proofs.open.OpenRun.last.Goals as goal

pub returns-clause-some : goal.returns-clause-some
returns-clause-some c =
    found_open c.last.result c.self.inside.run.tasks c.args.self.now.task (rw c.as_slice.ensures at c.last.ensures.value) (ap (λ (o : RunSoFar). o.task) c.self.view_is)

pub returns-clause-none : goal.returns-clause-none
returns-clause-none c =
    found_none c.last.result c.self.inside.run.tasks c.args.self.now.task (rw c.as_slice.ensures at c.last.ensures.value) (ap (λ (o : RunSoFar). o.task) c.self.view_is)
