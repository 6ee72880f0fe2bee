use Rattle.std.proofs.Common.{◌≡◌, ◌≤◌, ◌+◌}
use Rattle.bf_report_reader.specs.inner.Held.{ahead, Tallies}
use Rattle.bf_report_reader.specs.inner.Beginning.{room, opening_text, so_far}
use Rattle.bf_report_reader.specs.inner.Rules.{KeepsRules}
use Rattle.bf_report_reader.specs.Faults.{lines_in}
use Rattle.bf_report_reader.specs.inner.Steps.{ReadsOn}
use Rattle.bf_report_reader.specs.inner.Extensions.{IsKnown}
use Rattle.bf_report_reader.proofs.reading.read_lines.Given as goal

abbrev pub invariant-loop-beginning : goal.invariant-loop-beginning
invariant-loop-beginning g l =
    KeepsRules l.beginning × IsKnown l.beginning
    × ReadsOn (ahead l.fn.lines.held (g.R.Read.left l.fn.device)) (ahead l.lines.held (g.R.Read.left l.device)) (opening_text (so_far l.fn.beginning)) (opening_text (so_far l.beginning))
    × Tallies l.fn.lines.held.interruptions (g.R.Read.interruptions l.fn.device) (g.R.Read.failures l.fn.device) l.lines.held.interruptions (g.R.Read.interruptions l.device) (g.R.Read.failures l.device)
    × (l.lines.number ≡ lines_in (opening_text (so_far l.beginning)))
    × (l.lines.number + room l.beginning ≤ 299_000_000_000)

abbrev pub decreases-loop-beginning : goal.decreases-loop-beginning
decreases-loop-beginning g l = room l.beginning
