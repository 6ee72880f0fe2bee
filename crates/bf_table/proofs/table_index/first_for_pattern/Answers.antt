use Rattle.std.proofs.Common.{None, ap₂, ◌∙◌}
use Rattle.std.specs.BTreeMap as tree
use Rattle.bf_table.specs.TableIndex.{pattern_cmp}
use Rattle.bf_table.specs.inner.TableIndex.{earlier_place_of, keys_with_task}
use Rattle.bf_table.proofs.IndexLemmas.{two_groups}
use Rattle.bf_table.proofs.table_index.first_for_pattern.Goals as goal

pub returns : goal.returns
returns c =
    c.earlier_place.ensures ∙ ap₂ earlier_place_of c.first_with_task-any.ensures c.first_with_task-same.ensures
    ∙ two_groups (tree.get pattern_cmp c.args.firsts.now) (keys_with_task c.args.asked None) (keys_with_task c.args.asked c.args.asked.task)
