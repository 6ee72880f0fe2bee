use Rattle.std.proofs.Common.{◌≡◌, ◌≤◌}
use Rattle.bf_device.specs.Device.{WentOn}
use Rattle.bf_journal.proofs.cuttable.try_cut.Given as goal

abbrev pub invariant-loop : goal.invariant-loop
invariant-loop g l = (g.D.Write.written l.device ≡ g.D.Write.written l.fn.device)
    × WentOn l.counter (g.D.Write.interruptions l.fn.device) (g.D.Write.interruptions l.device)
    × WentOn 0 (g.D.Write.failures l.fn.device) (g.D.Write.failures l.device)
