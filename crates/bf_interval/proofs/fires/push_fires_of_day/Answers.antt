use Rattle.std.proofs.Common.{◌≡◌, ℕ, ◌+◌, ◌*◌, subst, sym, ◌∙◌, arith}
use Rattle.jiff.specs.Words.{plain_zone}
use Rattle.bf_interval.specs.inner.Search.{Collects}
use Rattle.bf_interval.proofs.Collecting.{collects_skip}
use Rattle.bf_interval.proofs.Skipping.{hour_skipped}
use Rattle.bf_interval.proofs.fires.push_fires_of_day.Goals as goal
use Rattle.bf_interval.proofs.fires.push_fires_of_day.Goals.{then-has_hour+in_ok-push_fires_of_hour, else-has_hour}

pub loop-hour-preserved : goal.loop-hour-preserved
loop-hour-preserved c =
    let next : c.loop-hour.hour * 60 + 60 ≡ (c.loop-hour.hour + 1) * 60 = omega arith in
    elim c.if-has_hour.branch [
      | then-has_hour+in_ok-push_fires_of_hour w ↦ rw w.found-is (record {
        rising = w.push_fires_of_hour.ensures.rising;
        found = λ low above before.
            let P : ℕ → Type 0 = λ m. Collects c.args.spec.now (plain_zone c.args.zone.now) low m c.args.from w.push_fires_of_hour.new.found.items in
            subst P next (w.in_ok-push_fires_of_hour.ensures.ok low (omega arith) (c.loop-hour.invariant.found low above before));
      })
      | else-has_hour w ↦ rw w.found-is (record {
        rising = c.loop-hour.invariant.rising;
        found = λ low above before.
            collects_skip c.args.spec.now _ low (c.loop-hour.hour * 60) _ _ _ (omega arith)
            (λ m at after until. hour_skipped c.args.spec.now c.loop-hour.hour m at (sym c.has_hour.ensures ∙ w.if-has_hour.false) after (omega arith))
            (c.loop-hour.invariant.found low above before);
      })
    ]

pub returns-clause-ok : goal.returns-clause-ok
returns-clause-ok c = λ low above before.
    let P : ℕ → Type 0 = λ m. Collects c.args.spec.now (plain_zone c.args.zone.now) low m c.args.from c.loop-hour.found.items in
    let end : c.loop-hour.hour * 60 ≡ c.args.day * 1_440 + 1_440 = omega arith in
    subst P end (c.loop-hour.invariant.found low above before)
