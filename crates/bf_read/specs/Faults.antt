-- Refusals of a graph file, as they are numbered and printed.
use Rattle.std.specs.Prelude.{ℕ, List, ◌++◌, Option, Some, None, codes}
use Rattle.bf_read.specs.Paths.{path_text}
use Rattle.bf_read.specs.declared.fault.ReadFault.{ReadFault}
use Rattle.bf_read.specs.declared.fault.ReadFault.TheVariants.{NotJson, Shape, BadName, DuplicateTask, LimitPassed, OutOfMemory}

-- want of memory has no number
abbrev pub refusal_number_of : ReadFault → Option ℕ
refusal_number_of NotJson = Some 1
refusal_number_of (Shape path) = Some 2
refusal_number_of (BadName path) = Some 3
refusal_number_of (DuplicateTask task) = Some 4
refusal_number_of (LimitPassed path) = Some 5
refusal_number_of OutOfMemory = None

-- the words
abbrev pub fault_text : ReadFault → List ℕ
fault_text NotJson = codes "not json"
fault_text (Shape path) = codes "shape: " ++ path_text path
fault_text (BadName path) = codes "bad name: " ++ path_text path
fault_text (DuplicateTask task) = codes "duplicate task: " ++ task
fault_text (LimitPassed path) = codes "limit passed: " ++ path_text path
fault_text OutOfMemory = codes "out of memory"
