use Rattle.std.proofs.Common.{◌-◌, ◌≤◌, ◌+◌, length}
use Rattle.std.specs.Io.KnownBytes.{Consumes}
use Rattle.bf_report_reader.specs.Faults.{IsInLine, longest_line}
use Rattle.bf_report_reader.specs.inner.Held.{ahead, Tallies}
use Rattle.bf_report_reader.proofs.line.next_line.Given as goal

abbrev pub invariant-loop-held : goal.invariant-loop-held
invariant-loop-held g l =
    Consumes (ahead l.fn.held (g.R.Read.left l.fn.device)) (ahead l.held (g.R.Read.left l.device)) l.line.items
    × IsInLine l.line.items
    × (length l.line.items ≤ longest_line l.line.items + 1)
    × Tallies l.fn.held.interruptions (g.R.Read.interruptions l.fn.device) (g.R.Read.failures l.fn.device) l.held.interruptions (g.R.Read.interruptions l.device) (g.R.Read.failures l.device)

abbrev pub decreases-loop-held : goal.decreases-loop-held
decreases-loop-held g l = 68_000_001 - length l.line.items
