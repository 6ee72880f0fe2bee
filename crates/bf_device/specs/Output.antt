-- What a writer of std answered.
use Rattle.std.specs.Prelude.{ℕ}
use Rattle.bf_device.specs.declared.output.Output.{Output}

-- how many calls were interrupted
abbrev pub interrupted_calls : {W : Type 0} → Output W → ℕ
interrupted_calls o = o.halts.interrupted

-- how many calls failed, or took none of some bytes
abbrev pub failed_calls : {W : Type 0} → Output W → ℕ
failed_calls o = o.halts.failed
