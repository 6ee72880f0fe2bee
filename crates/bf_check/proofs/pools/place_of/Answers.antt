use Rattle.std.proofs.Common.{sym, rules}
use Rattle.std.specs.Cmp.Lexicographic.{slice_cmp}
use Rattle.std.specs.Ordering.{nat_cmp}
use Rattle.std.proofs.lemmas.Fn.{always_returns_same}
use Rattle.bf_read.specs.declared.draft.PoolDraft.{PoolDraft}
use Rattle.bf_check.proofs.PoolLemmas.{found_place, missing_place, rising_against}
use Rattle.bf_check.proofs.pools.place_of.Goals as goal

pub returns-in-Ok-clause-place : goal.returns-in-Ok-clause-place
returns-in-Ok-clause-place c =
    let q = c.args.name.now in
    let found = c.in-Ok.ensures.position (λ (pool : PoolDraft). slice_cmp nat_cmp pool.name q) (always_returns_same _ _ _ (λ a r k called. search rules)) in
    sym (found_place q c.args.pools.now c.in-Ok.place c.requires c.in-Ok.ensures.bound found)

pub returns-in-Err-clause-place : goal.returns-in-Err-clause-place
returns-in-Err-clause-place c =
    let q = c.args.name.now in
    let between = c.in-Err.ensures.position (λ (pool : PoolDraft). slice_cmp nat_cmp pool.name q) (always_returns_same _ _ _ (λ a r k called. search rules)) (rising_against c.args.pools.now q c.requires) in
    sym (missing_place q c.args.pools.now _ c.in-Err.ensures.bound between)
