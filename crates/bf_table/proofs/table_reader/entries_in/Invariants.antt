use Rattle.std.proofs.Common.{◌≡◌, drop}
use Rattle.serde_json.specs.View.{items_view}
use Rattle.bf_table.specs.Tables.{entries_from, entries_of}
use Rattle.bf_table.proofs.TableLemmas.{after}
use Rattle.bf_table.proofs.table_reader.entries_in.Given as goal

-- the entries so far, and what is read of the rest, are what is read of all
abbrev pub invariant-loop-number : goal.invariant-loop-number
invariant-loop-number l = after l.entries.items (entries_from l.number (entries_of (items_view (drop l.number l.items)))) ≡ entries_from 0 (entries_of (items_view l.items))
