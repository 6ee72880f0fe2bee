use Rattle.std.proofs.Common.{length, rules, tests}
use Rattle.std.proofs.lemmas.Iterator.{YieldsList-from_map, YieldsList-from_slice}
use Rattle.std.proofs.lemmas.Iterator.Consumers.{sum_by_from_yields_List}
use Rattle.bf_read.specs.declared.draft.TaskDraft.{TaskDraft}
use Rattle.bf_read.proofs.draft.edge_count.Goals as goal

pub returns : goal.returns
returns c = sum_by_from_yields_List _ _ c.map.result _ c.sum.ensures.ran (YieldsList-from_map _ (λ (task : TaskDraft). length task.upstreams) (YieldsList-from_slice c.args.tasks.now cc) c.map.ensures.closure (λ x r q k. search (rules, tests)))
