-- What contracts see of the machine's files.
use Rattle.std.specs.Prelude.{ℕ, Bool, List, Option, option_map, string_bytes}
use Rattle.bf_disk.specs.declared.disk.Disk.{Disk}
use Rattle.bf_disk.specs.declared.new_file.NewFile.{NewFile}

-- the path whose file is to be replaced, as it was given
abbrev pub path_begun : {R : Type 0} → Disk R → Option (List ℕ)
path_begun disk = option_map (λ target. string_bytes target.path) disk.target

-- whether a call that replaces a file has failed
abbrev pub has_failed_on : {R : Type 0} → Disk R → Bool
has_failed_on disk = disk.failed

-- whether a call of a new file has failed
abbrev pub has_failed : {R F P : Type 0} → NewFile R F P → Bool
has_failed new = new.failed
