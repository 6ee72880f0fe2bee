-- Bytes in memory to be read.
use Rattle.std.specs.Prelude.{ℕ, List, drop}
use Rattle.bf_device.specs.declared.bytes.Bytes.{Bytes}

-- the bytes that were not read yet
abbrev pub bytes_left : Bytes → List ℕ
bytes_left b = drop b.read b.bytes.items
