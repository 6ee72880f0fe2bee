use Rattle.std.proofs.Common.{◌≡◌, sym, subst}
use Rattle.bf_report_reader.specs.Beginning.{closed}
use Rattle.bf_report_reader.specs.Open.{RunSoFar}
use Rattle.bf_report_reader.proofs.PartingFacts.{closed_seen}
use Rattle.bf_report_reader.proofs.open.OpenRun.into_run.Goals as goal

pub returns : goal.returns
returns c = subst (λ (o : RunSoFar). c.self.inside.run ≡ closed o) c.self.view_is (sym (closed_seen c.self.inside.run))
