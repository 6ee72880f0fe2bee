use Rattle.bf_clear.proofs.Aligned.{aligned_within}
use Rattle.bf_clear.proofs.clearing.clear_places_by_ids.Goals as goal

pub clear_places_within-requires : goal.clear_places_within-requires
clear_places_within-requires c = aligned_within c.args.plan.now.dag c.args.runs.now c.args.report c.in_ok-told.told c.in_ok-told.ensures

pub returns-clause-kept : goal.returns-clause-kept
returns-clause-kept c = record { aligned = c.in_ok-told.told; is_aligned = c.in_ok-told.ensures; are_kept = c.in_ok-kept.ensures.kept }
