use Rattle.std.proofs.Common.{◌≡◌, ◌∙◌, sym, arith, ℕ, ◌+◌, ◌*◌, ◌/◌, subst, List}
use Rattle.jiff.specs.Words.{plain_zone}
use Rattle.bf_interval.specs.inner.Search.{Collects, IsSettled}
use Rattle.bf_interval.proofs.Collecting.{collects_skip}
use Rattle.bf_interval.proofs.Skipping.{date_skipped}
use Rattle.bf_interval.proofs.Settling.{first_settled, enough_settled, first_whole, enough_whole}
use Rattle.bf_interval.proofs.fires.first_fires.Goals as goal
use Rattle.bf_interval.proofs.fires.first_fires.Goals.{then-has_date+in_ok-push_fires_of_day, else-has_date}

pub returns-in-Some-clause-first : goal.returns-in-Some-clause-first
returns-in-Some-clause-first c =
    let P : List ℕ → Type 0 = λ xs. IsSettled xs c.args.to c.loop-day.day c.in-Some.count in
    let done = subst P c.deref.ensures.value c.in-Some.ensures.some in
    first_settled c.args.spec.now _ _ c.args.to c.loop-day.day c.in-Some.count c.loop-day.found.items _ c.loop-day.invariant.rising c.loop-day.invariant.found done
    (record { inside = done.inside; len = omega (arith, c.truncate.ensures.len, done.inside); same = c.truncate.ensures.by_index })

pub returns-in-Some-clause-enough : goal.returns-in-Some-clause-enough
returns-in-Some-clause-enough c =
    let P : List ℕ → Type 0 = λ xs. IsSettled xs c.args.to c.loop-day.day c.in-Some.count in
    let done = subst P c.deref.ensures.value c.in-Some.ensures.some in
    enough_settled c.args.spec.now _ _ c.args.to c.loop-day.day c.in-Some.count c.loop-day.found.items _ done
    (record { inside = done.inside; len = omega (arith, c.truncate.ensures.len, done.inside); same = c.truncate.ensures.by_index })

pub loop-day-preserved : goal.loop-day-preserved
loop-day-preserved c =
    let next : c.loop-day.day * 1_440 + 1_440 ≡ (c.loop-day.day + 1) * 1_440 = omega arith in
    elim c.if-has_date.branch [
      | then-has_date+in_ok-push_fires_of_day w ↦ rw w.found-is (record {
        rising = w.push_fires_of_day.ensures.rising;
        found =
            let P : ℕ → Type 0 = λ m. Collects c.args.spec.now (plain_zone c.args.zone.now) (c.args.from / 86_400 * 1_440) m c.args.from w.push_fires_of_day.new.found.items in
            subst P next (w.in_ok-push_fires_of_day.ensures.ok _ (omega arith) c.loop-day.invariant.found);
      })
      | else-has_date w ↦ rw w.found-is (record {
        rising = c.loop-day.invariant.rising;
        found = collects_skip c.args.spec.now _ _ (c.loop-day.day * 1_440) _ _ _ (omega arith)
            (λ m at after until. date_skipped c.args.spec.now c.date_of.result c.loop-day.day m at c.date_of.ensures (sym c.has_date.ensures ∙ w.if-has_date.false) after (omega arith))
            c.loop-day.invariant.found;
      })
    ]

pub returns-clause-first : goal.returns-clause-first
returns-clause-first c = first_whole c.args.spec.now _ _ c.loop-day.day _ (omega arith) c.loop-day.invariant.rising c.loop-day.invariant.found

pub returns-clause-enough : goal.returns-clause-enough
returns-clause-enough c = enough_whole c.args.spec.now _ _ _ c.loop-day.day _ (omega arith) c.loop-day.invariant.found
