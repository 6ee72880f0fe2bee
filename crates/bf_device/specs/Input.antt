-- What a reader of std answered.
use Rattle.std.specs.Prelude.{ℕ}
use Rattle.bf_device.specs.declared.input.Input.{Input}

-- how many reads were interrupted
abbrev pub interrupted_reads : {R : Type 0} → Input R → ℕ
interrupted_reads i = i.halts.interrupted

-- how many reads failed
abbrev pub failed_reads : {R : Type 0} → Input R → ℕ
failed_reads i = i.halts.failed
