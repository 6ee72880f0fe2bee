use Rattle.std.proofs.Common.{◌≡◌, ◌∙◌, ◌+◌, ◌-◌, ap, arith, drop, length, get_or}
use Rattle.std.proofs.lemmas.List.{get_or-take}
use Rattle.std.proofs.lemmas.Grind.{get_or_after_one}
use Rattle.bf_interval.specs.inner.Search.{seconds}
use Rattle.bf_interval.proofs.Pairing.{pairs_push, length_push}
use Rattle.bf_interval.proofs.listing.intervals_between_fires.Goals as goal

pub loop-end-preserved : goal.loop-end-preserved
loop-end-preserved c =
    let fires = c.args.fires.now in
    let i = c.loop-end.end-index in
    let found = c.loop-end.found.items in
    let after : 1 + i ≡ i + 1 = omega arith in
    let next = get_or-take (length fires - 1) (drop 1 fires) i 0 (omega arith) ∙ get_or_after_one fires i 0 ∙ ap (λ k. get_or fires k 0) after in
    rw c.in_ok-push.ensures.items (record {
      pairs = pairs_push fires c.args.to i found _ c.loop-end.invariant.pairs c.loop-end.invariant.length (omega arith) (omega arith) (omega arith)
          (λ j. ((c.moment_of_second.ensures ∙ ap seconds c.loop-end.invariant.start) j, (c.moment_of_second-in-loop-end.ensures ∙ ap seconds next) j));
      length = length_push found _ i c.loop-end.invariant.length;
      start = next;
    })
