use Rattle.bf_report_reader.proofs.Reports.{reads_if_err}
use Rattle.bf_report_reader.proofs.reading.read_report.Goals as goal

pub returns-clause-reads : goal.returns-clause-reads
returns-clause-reads g c = reads_if_err (g.R.Read.left c.args.device.now) c.read_all.result c.read_all.ensures.err
