-- What a command that writes a report names beside the file that it goes to.
use Rattle.std.specs.Prelude.{ℕ, List, Option, None, Some, option_map, string_bytes}
use Rattle.bf_command_line.specs.declared.forms.Asked.{Asked}
use Rattle.bf_command_line.specs.declared.forms.Asked.TheVariants.{Clear, ClearPlan, Dry, Keep, Run, Single}
use Rattle.bf_command_line.specs.declared.forms.ClearedAsked.{ClearedAsked}
use Rattle.bf_command_line.specs.declared.forms.ClearedAsked.TheVariants as cleared
use Rattle.bf_command_line.specs.declared.forms.GraphAsked.{GraphAsked}
use Rattle.bf_command_line.specs.declared.forms.JournalAsked.{JournalAsked}

-- the graph file and the zone file
abbrev pub graph_of : Asked → Option GraphAsked
graph_of (Single s) = Some s.graph
graph_of (Dry d) = Some d.graph
graph_of (Run r) = Some r.graph
graph_of (Keep k) = Some k.graph
graph_of (Clear c) = Some c.graph
graph_of (ClearPlan c) = Some c.graph
graph_of other = None

-- the table
abbrev pub table_of : Asked → Option (List ℕ)
table_of (Single s) = Some (string_bytes s.table)
table_of (Dry d) = Some (string_bytes d.table)
table_of (Keep k) = option_map string_bytes k.table
table_of (Clear c) = option_map string_bytes c.table
table_of other = None

-- the report that it goes on from
abbrev pub report_of : Asked → Option (List ℕ)
report_of (Keep k) = Some (string_bytes k.report)
report_of (Clear c) = Some (string_bytes c.report)
report_of (ClearPlan c) = Some (string_bytes c.report)
report_of other = None

abbrev pub seeds_in : ClearedAsked → Option (List ℕ)
seeds_in (cleared.File path) = Some (string_bytes path)
seeds_in other = None

-- the seeds file
abbrev pub seeds_of : Asked → Option (List ℕ)
seeds_of (Clear c) = seeds_in c.cleared
seeds_of (ClearPlan c) = seeds_in c.cleared
seeds_of other = None

abbrev pub path_in : Option JournalAsked → Option (List ℕ)
path_in journal = option_map (λ j. string_bytes j.path) journal

-- the journal
abbrev pub journal_of : Asked → Option (List ℕ)
journal_of (Run r) = path_in r.journal
journal_of (Keep k) = path_in k.journal
journal_of (Clear c) = path_in c.journal
journal_of other = None

-- the launcher
abbrev pub launcher_of : Asked → Option (List ℕ)
launcher_of (Run r) = option_map string_bytes r.launcher
launcher_of (Keep k) = option_map string_bytes k.launcher
launcher_of (Clear c) = option_map string_bytes c.launcher
launcher_of other = None

-- the folder of logs
abbrev pub logs_of : Asked → Option (List ℕ)
logs_of (Run r) = option_map string_bytes r.logs
logs_of (Keep k) = option_map string_bytes k.logs
logs_of (Clear c) = option_map string_bytes c.logs
logs_of other = None
