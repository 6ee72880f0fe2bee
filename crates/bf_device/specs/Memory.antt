-- Bytes in memory.
use Rattle.std.specs.Prelude.{ℕ, List}
use Rattle.bf_device.specs.declared.memory.Memory.{Memory}

-- the bytes that were written
abbrev pub bytes_in : Memory → List ℕ
bytes_in m = m.bytes.items

-- how many writes found no memory
abbrev pub refused_writes : Memory → ℕ
refused_writes m = m.failed
