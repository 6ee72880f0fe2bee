use Rattle.std.proofs.Common.{sym, ◌∙◌, true≢false, codes}
use Rattle.std.specs.Cmp.Lexicographic.{bytes_decides}
use Rattle.bf_check.proofs.PoolLemmas.{default_named, none_named}
use Rattle.bf_check.proofs.pools.pool_named.Goals as goal

pub returns-in-None : goal.returns-in-None
returns-in-None c =
    let q = c.args.name.now in
    sym (default_named q c.args.pools.now (sym c.place_of.ensures.place ∙ c.in-None.is) ((bytes_decides q (codes "default_pool")).0 (sym c.eq.ensures ∙ c.if-eq.true)))

pub returns-in-None-2 : goal.returns-in-None-2
returns-in-None-2 c =
    let q = c.args.name.now in
    sym (none_named q c.args.pools.now (sym c.place_of.ensures.place ∙ c.in-None.is) (λ same. true≢false (sym ((bytes_decides q (codes "default_pool")).1 same) ∙ sym c.eq.ensures ∙ c.if-eq.false)))
