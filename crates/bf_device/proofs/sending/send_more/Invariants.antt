use Rattle.std.proofs.Common.{◌≡◌, ◌+◌, ◌*◌, ◌-◌, ◌≤◌, length, take}
use Rattle.bf_device.specs.Device.{sent, WentOn}
use Rattle.bf_device.proofs.sending.send_more.Given as goal

abbrev pub invariant-loop-count : goal.invariant-loop-count
invariant-loop-count g l = (l.count ≤ length l.bytes) × (l.fn.interruptions ≤ l.interruptions) × (l.interruptions ≤ 1_000)
    × (g.W.Write.written l.out ≡ sent (g.W.Write.written l.fn.out) (take l.count l.bytes))
    × WentOn (l.interruptions - l.fn.interruptions) (g.W.Write.interruptions l.fn.out) (g.W.Write.interruptions l.out)
    × WentOn 0 (g.W.Write.failures l.fn.out) (g.W.Write.failures l.out)

abbrev pub decreases-loop-count : goal.decreases-loop-count
decreases-loop-count g l = 1_001 * (length l.bytes - l.count) + (1_000 - l.interruptions)
