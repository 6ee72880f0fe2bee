use Rattle.std.proofs.Common.{◌+◌, ◌-◌, ◌≤◌, length}
use Rattle.bf_device.specs.Device.{WentOn}
use Rattle.bf_page.specs.inner.Pieces.{whole, left, steps_behind}
use Rattle.bf_page.proofs.SendingFacts.{HasGoneOut}
use Rattle.bf_page.proofs.sending.send_pieces.Given as goal

abbrev pub invariant-loop-rest : goal.invariant-loop-rest
invariant-loop-rest g l = HasGoneOut (whole l.fn.pieces l.fn.last) (left l.rest) l.sent (g.W.Write.written l.fn.out) (g.W.Write.written l.out)
    × (l.interruptions ≤ 1_000)
    × WentOn l.interruptions (g.W.Write.interruptions l.fn.out) (g.W.Write.interruptions l.out)
    × WentOn 0 (g.W.Write.failures l.fn.out) (g.W.Write.failures l.out)

abbrev pub decreases-loop-rest : goal.decreases-loop-rest
decreases-loop-rest g l = length (left l.rest) + steps_behind l.rest.told.now l.rest.pieces.now l.rest.last.now + (1_000 - l.interruptions)
