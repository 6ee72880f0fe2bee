use Rattle.std.proofs.Common.{ap, ◌∙◌}
use Rattle.std.specs.BTreeMap.{is_at}
use Rattle.std.specs.List.{list_any}
use Rattle.std.proofs.lemmas.List.{take_all, get_or_default}
use Rattle.bf_dependents.specs.Places.{place_cmp}
use Rattle.bf_dependents.proofs.Lookups.{held_right, one_held}
use Rattle.bf_dependents.proofs.found.seed_set_of.Goals as goal

pub loop-seed-preserved : goal.loop-seed-preserved
loop-seed-preserved c = λ q.
    let seeds = c.args.seeds.now in
    let i = c.loop-seed.seed-index in
    one_held seeds i _ q _ _ c.loop-seed-test.true (get_or_default seeds i _ _ c.loop-seed-test.true) (c.loop-seed.invariant q) (c.in_ok-insert.ensures.updates.0 q)

pub returns : goal.returns
returns c = held_right c.args.seeds.now c.loop-seed.held.keys (λ q. c.loop-seed.invariant q ∙ ap (list_any (is_at (place_cmp q))) (take_all _ _ c.loop-seed-test.false))
