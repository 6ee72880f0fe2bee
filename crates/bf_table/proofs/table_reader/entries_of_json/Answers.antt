use Rattle.std.proofs.Common.{length, sym, ap, arith}
use Rattle.serde_json.proofs.Views.{items_len-items_view}
use Rattle.bf_table.proofs.table_reader.entries_of_json.Goals as goal

pub entries_in-requires : goal.entries_in-requires
entries_in-requires c = omega (arith, c.requires _ (sym c.in-Some.ensures), items_len-items_view c.in-Some.items.now.items, ap length c.as_slice.ensures.value)
