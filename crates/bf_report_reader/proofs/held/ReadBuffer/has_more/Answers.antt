use Rattle.bf_report_reader.proofs.HeldFacts.{nothing_held, consumes_held}
use Rattle.bf_report_reader.proofs.held.ReadBuffer.has_more.Goals as goal

pub returns-clause-same : goal.returns-clause-same
returns-clause-same g c =
    consumes_held (g.R.Read.left c.args.device.now) (g.R.Read.left c.fill.new.device) _ _ c.fill.result (nothing_held c.args.self.now.start c.args.self.now.end c.args.self.now.room.items c.if-self.false) c.fill.ensures.bytes
