use Rattle.std.proofs.lemmas.Result.{IfOk-weaker}
use Rattle.bf_graph.proofs.LookupLemmas.{leaves_listed}
use Rattle.bf_graph.proofs.lookups.leaves_of.Goals as goal

pub returns : goal.returns
returns c = IfOk-weaker c.marked_places.result _ _ (λ leaves is ups below. leaves_listed _ _ _ _ c.in_ok-are_leaves.ensures c.as_slice.ensures.value is ups below) c.marked_places.ensures
