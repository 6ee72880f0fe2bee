-- What contracts see of a file in memory.
use Rattle.std.specs.Prelude.{ℕ, List, string_bytes}
use Rattle.bf_disk.specs.declared.stored.StoredFile.{StoredFile}

-- its path and its bytes
abbrev pub seen : StoredFile → List ℕ × List ℕ
seen file = (string_bytes file.path, file.bytes.items)
