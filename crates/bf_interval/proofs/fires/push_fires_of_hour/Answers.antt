use Rattle.std.proofs.Common.{◌≡◌, ℕ, ◌+◌, ◌*◌, subst, arith}
use Rattle.jiff.specs.Words.{plain_zone}
use Rattle.bf_interval.specs.inner.Search.{Collects}
use Rattle.bf_interval.proofs.fires.push_fires_of_hour.Goals as goal

pub returns-clause-ok : goal.returns-clause-ok
returns-clause-ok c = λ low above before.
    let P : ℕ → Type 0 = λ m. Collects c.args.spec.now (plain_zone c.args.zone.now) low m c.args.from c.loop-minute.found.items in
    let end : c.loop-minute.minute ≡ c.args.hour * 60 + 60 = omega arith in
    subst P end (c.loop-minute.invariant.found low above before)
