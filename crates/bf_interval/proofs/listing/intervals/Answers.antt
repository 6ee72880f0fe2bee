use Rattle.std.proofs.Common.{List, ℕ, subst, sym, rules, Ordering, Less, Equal, Greater, is_lt, int_cmp, false, ◌≡◌, ℤ, ◌≤ℤ◌, ◌<ℤ◌, arith}
use Rattle.std.proofs.lemmas.Int.{ints}
use Rattle.std.specs.Ordering.{MatchOrdering}
use Rattle.std.specs.Cmp.{int_ranks}
use Rattle.jiff.specs.Words.{plain_zone}
use Rattle.bf_interval.specs.inner.Search.{AreFirst, AreEnough}
use Rattle.bf_interval.proofs.Pairing.{answered, bounded}
use Rattle.bf_interval.proofs.listing.intervals.Goals as goal

pub intervals_between_fires-requires : goal.intervals_between_fires-requires
intervals_between_fires-requires c =
    let P : List ℕ → Type 0 = AreFirst c.args.spec.now (plain_zone c.args.zone.now) c.second_rounded_up-first.result in
    bounded c.args.spec.now _ _ _ (subst P (sym c.deref.ensures.value) c.in_ok-fires.ensures.first)

ranked : (a b : ℤ) (o : Ordering) → MatchOrdering o (a <ℤ b) (a ≡ b) (b <ℤ a) → is_lt o ≡ false → b ≤ℤ a
ranked a b Less ranks off = absurd (cc)
ranked a b Equal ranks off = omega (arith, ints)
ranked a b Greater ranks off = omega (arith, ints)

not_before : (a b : ℤ) → is_lt (int_cmp a b) ≡ false → b ≤ℤ a
not_before a b = ranked a b (int_cmp a b) (int_ranks a b)

pub returns : goal.returns
returns c =
    let P : List ℕ → Type 0 = AreFirst c.args.spec.now (plain_zone c.args.zone.now) c.second_rounded_up-first.result in
    let Q : List ℕ → Type 0 = AreEnough c.args.spec.now (plain_zone c.args.zone.now) c.second_rounded_up-first.result c.second_rounded_down-last.result in
    answered c.args.spec.now _ _ _ _ c.second_rounded_down-last.result c.deref.result.now _
    (record { from_in_years = search rules; to_in_years = search rules; in_order = not_before _ _ (sym c.if-lt.ensures) })
    c.second_rounded_up-first.ensures.rounded c.second_rounded_down-last.ensures
    (subst P (sym c.deref.ensures.value) c.in_ok-fires.ensures.first) (subst Q (sym c.deref.ensures.value) c.in_ok-fires.ensures.enough)
    c.intervals_between_fires.ensures
