use Rattle.std.proofs.Common.{refl}
use Rattle.bf_report_reader.proofs.Growth.{first_utf8, next_parts}
use Rattle.bf_report_reader.proofs.beginning.ReportSoFar.add_id.Goals as goal

pub unreachable-requires : goal.unreachable-requires
unreachable-requires c =
    let b = c.args.self.now in
    c.in_default.ensures.cases.0 (first_utf8 b.runs b.tasks b.run c.args.id.now (c.if-not-is_empty.ensures.0 refl) (next_parts b c.args.id.now c.requires).1)
