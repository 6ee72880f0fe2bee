use Rattle.std.proofs.Common.{◌+◌, [], ap, sym, append-nil}
use Rattle.bf_report.specs.Report.{report_text}
use Rattle.bf_report_reader.specs.inner.Beginning.{opening_text, so_far}
use Rattle.bf_report_reader.specs.inner.Held.{held_bytes, ahead}
use Rattle.bf_report_reader.proofs.LineFacts.{more_tells}
use Rattle.bf_report_reader.proofs.StepFacts.{reads_more}
use Rattle.bf_report_reader.proofs.reading.read_rest.Goals as goal

pub returns-then-branch-clause-tells : goal.returns-then-branch-clause-tells
returns-then-branch-clause-tells g c =
    more_tells (ahead c.args.lines.now.held (g.R.Read.left c.args.device.now)) _ (g.R.Read.left c.has_more.new.device) (opening_text (so_far c.args.beginning.now)) (held_bytes c.has_more.new.self) (so_far c.read_lines.new.beginning) (c.read_lines.new.lines.number + 1)
    c.in_ok-read_lines.ensures.rules c.in_ok-read_lines.ensures.ok (ap (λ n. n + 1) c.in_ok-read_lines.ensures.place) c.in_ok-has_more.ensures.same (c.in_ok-has_more.ensures.more.0 c.if-branch.true)

pub returns-clause-ok : goal.returns-clause-ok
returns-clause-ok g c =
    let text = report_text (so_far c.read_lines.new.beginning) in
    reads_more _ _ _ (opening_text (so_far c.args.beginning.now)) text text [] c.in_ok-read_lines.ensures.ok c.in_ok-has_more.ensures.same (sym (append-nil text))

pub returns-clause-tallied : goal.returns-clause-tallied
returns-clause-tallied g c = λ base failed t. c.in_ok-has_more.ensures.tallied base failed (c.in_ok-read_lines.ensures.tallied base failed t)
