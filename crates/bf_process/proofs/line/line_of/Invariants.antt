use Rattle.std.proofs.Common.{◌+◌, ◌-◌, ◌≤◌, vec_len}
use Rattle.std.specs.Io.KnownBytes.{Consumes}
use Rattle.bf_device.specs.Device.{WentOn}
use Rattle.bf_process.proofs.line.line_of.Given as goal

abbrev pub invariant-loop-bytes : goal.invariant-loop-bytes
invariant-loop-bytes g l = Consumes (g.R.Read.left l.fn.device) (g.R.Read.left l.device) l.bytes.items
    × (vec_len l.bytes ≤ 1_048_576) × (l.interruptions ≤ 1_000)
    × WentOn l.interruptions (g.R.Read.interruptions l.fn.device) (g.R.Read.interruptions l.device)
    × WentOn 0 (g.R.Read.failures l.fn.device) (g.R.Read.failures l.device)

abbrev pub decreases-loop-bytes : goal.decreases-loop-bytes
decreases-loop-bytes g l = (1_048_576 - vec_len l.bytes) + (1_000 - l.interruptions)
