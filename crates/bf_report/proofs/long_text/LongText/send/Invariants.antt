use Rattle.std.proofs.Common.{◌<◌, ◌^◌, drop, length}
use Rattle.bf_device.specs.Device.{HasCounted}
use Rattle.bf_report.specs.LongTexts.{AreWithin, text_from}
use Rattle.bf_report.proofs.SentTexts.{IsSent}
use Rattle.bf_report.proofs.long_text.LongText.send.Given as goal

abbrev pub invariant-loop-again : goal.invariant-loop-again
invariant-loop-again g l =
    AreWithin l.place (length l.held) (drop l.again-index l.again-items)
    × (length (text_from l.held 0 l.again-items) < 2 ^ 64)
    × IsSent (text_from l.held 0 l.again-items) (text_from l.held l.place (drop l.again-index l.again-items)) l.so_far.sent
    (g.W.Write.written l.fn.out) (g.W.Write.written l.out)
    × HasCounted 0 l.so_far.interruptions (g.W.Write.failures l.fn.out) (g.W.Write.failures l.out)
    (g.W.Write.interruptions l.fn.out) (g.W.Write.interruptions l.out)
