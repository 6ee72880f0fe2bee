-- Tables as text.
use Rattle.std.specs.Prelude.{ℕ, zero, suc, ℤ, List, [], ◌∷◌, ◌++◌, drop, Option, Some, None, option_map, codes}
use Rattle.std.specs.List.{flat_map}
use Rattle.serde_json.specs.Data.{Data, number, string, object, unsigned, Members, no_members, member}
use Rattle.serde_json.specs.Find.{of_integer}
use Rattle.serde_json.specs.Written.{compact_text}
use Rattle.bf_table.specs.declared.table.TableEntry.{TableEntry}
use Rattle.bf_report.specs.declared.report.Report.{Report}
use Rattle.bf_answers.specs.Answers.{answers_in}

-- a key, where something stands under it, before these members
abbrev pub optional : List ℕ → Option Data → Members → Members
optional key None members = members
optional key (Some under) members = member key under members

abbrev pub whole : ℤ → Data
whole n = number (of_integer n)

-- a status other than 0
abbrev pub status_data : ℕ → Option Data
status_data zero = None
status_data (suc n) = Some (number (unsigned (suc n)))

-- an output that isn't empty
abbrev pub out_data : List ℕ → Option Data
out_data [] = None
out_data (b ∷ bs) = Some (string (b ∷ bs))

-- what an entry names and gives
abbrev pub entry_members : TableEntry → Members
entry_members e =
    optional (codes "task") (option_map string e.task)
    (optional (codes "index") (option_map whole e.index)
    (optional (codes "run") (option_map string e.run)
    (optional (codes "try") (option_map whole e.attempt)
    (optional (codes "status") (status_data e.status)
    (optional (codes "out") (out_data e.line) no_members)))))

-- a comma, and the entry on a line of its own
abbrev pub entry_line : TableEntry → List ℕ
entry_line e = 44 ∷ 10 ∷ compact_text (object (entry_members e))

abbrev pub entry_lines : List TableEntry → List ℕ
entry_lines entries = flat_map entry_line entries

-- a list, whose bracket stands in the place of the first comma
abbrev pub table_text : List TableEntry → List ℕ
table_text entries = 91 ∷ drop 1 (entry_lines entries ++ codes "\n]\n")

-- the table that answers as the report tells
abbrev pub answers_text : Report → List ℕ
answers_text report = table_text (answers_in report)
