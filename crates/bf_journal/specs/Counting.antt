-- What a device counts over a call that takes and gives no bytes.
use Rattle.std.specs.Prelude.{ℕ, Err}
use Rattle.bf_device.specs.Device.{WentOn, interrupted, read_failed}
use Rattle.bf_device.specs.declared.device.Halt.{Halt}

-- neither a failure nor an interruption
abbrev pub CountsNoHalt : ℕ → ℕ → ℕ → ℕ → Type 0
CountsNoHalt failures_old failures_new interruptions_old interruptions_new =
    WentOn 0 failures_old failures_new × WentOn 0 interruptions_old interruptions_new

-- this one
abbrev pub CountsHalt : Halt → ℕ → ℕ → ℕ → ℕ → Type 0
CountsHalt halt failures_old failures_new interruptions_old interruptions_new =
    WentOn (read_failed (Err halt)) failures_old failures_new
    × WentOn (interrupted (Err halt)) interruptions_old interruptions_new
