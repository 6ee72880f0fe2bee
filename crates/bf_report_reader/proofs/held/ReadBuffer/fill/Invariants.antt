use Rattle.std.proofs.Common.{◌≡◌, ◌-◌, []}
use Rattle.std.specs.Io.KnownBytes.{Consumes}
use Rattle.bf_report_reader.specs.inner.Held.{Tallies}
use Rattle.bf_report_reader.proofs.held.ReadBuffer.fill.Given as goal

abbrev pub invariant-loop-count : goal.invariant-loop-count
invariant-loop-count g l = (l.self.start ≡ l.self.end)
    × Consumes (g.R.Read.left l.fn.device) (g.R.Read.left l.device) []
    × Tallies l.fn.self.interruptions (g.R.Read.interruptions l.fn.device) (g.R.Read.failures l.fn.device) l.self.interruptions (g.R.Read.interruptions l.device) (g.R.Read.failures l.device)

abbrev pub decreases-loop-count : goal.decreases-loop-count
decreases-loop-count g l = 1_000 - l.self.interruptions
