use Rattle.std.proofs.Common.{◌∙◌, ap}
use Rattle.bf_report_reader.specs.Beginning.{task_count_of}
use Rattle.bf_report_reader.proofs.PartingFacts.{count_seen}
use Rattle.bf_report_reader.proofs.open.OpenRun.task_count.Goals as goal

pub returns : goal.returns
returns c = c.len.ensures ∙ count_seen c.self.inside.run ∙ ap task_count_of c.self.view_is
