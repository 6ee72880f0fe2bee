use Rattle.bf_report_reader.proofs.PartingFacts.{seen_empty}
use Rattle.bf_report_reader.proofs.open.OpenRun.new.Goals as goal

pub returns : goal.returns
returns c = seen_empty c.args.run c.requires
