use Rattle.std.proofs.Common.{◌∙◌}
use Rattle.bf_table.proofs.TableLemmas.{known_by_keys}
use Rattle.bf_table.proofs.table_reader.has_known_keys.Goals as goal

pub returns : goal.returns
returns c = c.are_all_keys_known.ensures ∙ known_by_keys c.args.members.now.entries
