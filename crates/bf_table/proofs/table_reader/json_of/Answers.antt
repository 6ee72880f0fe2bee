use Rattle.std.proofs.Common.{refl, sym, true≢false}
use Rattle.bf_table.proofs.TableLemmas.{json_there, json_not_there}
use Rattle.bf_table.proofs.table_reader.json_of.Goals as goal

pub returns-in-Ok : goal.returns-in-Ok
returns-in-Ok c = json_there _ _ c.if-bytes-gt-LONGEST_TABLE.false c.in-Ok.ensures.ok.0 c.in-Ok.ensures.ok.1

pub returns-else-is_memory : goal.returns-else-is_memory
returns-else-is_memory c = (refl, json_not_there _ (c.in-Err.ensures.err (λ memory. true≢false (sym (c.if-is_memory.ensures.1 memory)))))
