use Rattle.std.proofs.Common.{◌≡◌, ◌+◌, length, arith, rules, sym, ◌∙◌}
use Rattle.std.proofs.lemmas.Grind.{common_steps}
use Rattle.jiff.specs.Words.{plain_zone}
use Rattle.bf_days.specs.inner.Listing.{are_on}
use Rattle.bf_days.proofs.Keeping.{one_too_many}
use Rattle.bf_days.proofs.listing.Search.push_those_on_days.Goals as goal

pub returns-then-len-eq-MOST_RUNS-clause-err : goal.returns-then-len-eq-MOST_RUNS-clause-err
returns-then-len-eq-MOST_RUNS-clause-err c =
    let i = c.loop-interval.interval-index in
    let x = c.interval-item.result in
    let many : length c.loop-interval.found.items ≡ 4_096 = first_of (search rules, grind (arith, common_steps)) in
    record {
      some = x;
      n = i + 1;
      within = omega arith;
      many = one_too_many (are_on (plain_zone c.args.self.zone.now) c.args.self.days) c.args.found.now.items c.args.listed.now c.loop-interval.found.items i x c.loop-interval-test.true c.interval-item.is
          (sym c.is_clock_on_days.ensures ∙ c.if-is_clock_on_days.true) c.loop-interval.invariant.kept many;
    }
