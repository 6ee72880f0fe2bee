use Rattle.bf_table.proofs.TableSize.{few_items}
use Rattle.bf_table.proofs.table_reader.entries_of_file.Goals as goal

pub entries_of_json-requires : goal.entries_of_json-requires
entries_of_json-requires c = few_items c.args.bytes.now _ c.in_ok-json.ensures
