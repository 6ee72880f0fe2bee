use Rattle.std.proofs.Common.{◌≤◌, vec_len, ◌+◌, ◌-◌}
use Rattle.std.specs.Io.KnownBytes.{Consumes}
use Rattle.bf_device.specs.Device.{WentOn}
use Rattle.bf_disk.proofs.prefix.read_front.Given as goal

-- the bytes so far were taken off what the device had, and no read failed
abbrev pub invariant-loop-chunk : goal.invariant-loop-chunk
invariant-loop-chunk g l = record {
  short : vec_len l.bytes ≤ l.count;
  few : l.interruptions ≤ 1000;
  taken : Consumes (g.R.Read.left l.initial.device) (g.R.Read.left l.device) l.bytes.items;
  interrupted : WentOn l.interruptions (g.R.Read.interruptions l.initial.device) (g.R.Read.interruptions l.device);
  unfailed : WentOn 0 (g.R.Read.failures l.initial.device) (g.R.Read.failures l.device);
}

abbrev pub decreases-loop-chunk : goal.decreases-loop-chunk
decreases-loop-chunk g l = (l.count - vec_len l.bytes) + (1000 - l.interruptions)
