use Rattle.std.proofs.Common.{◌≡◌, ◌+◌, ◌++◌, ◌∷◌, [], ap, ◌∙◌, length, length-append, arith, rules}
use Rattle.bf_exec.proofs.Starts.{fresh_at, unused_pushed}
use Rattle.bf_exec.proofs.starting.start_lanes.Goals as goal

pub loop-seat-preserved : goal.loop-seat-preserved
loop-seat-preserved g c =
    let pushed : c.push.new.self ≡ c.loop-seat.lanes ++ c.in-Ok.lane ∷ [] = search rules in
    let longer : length (c.loop-seat.lanes ++ c.in-Ok.lane ∷ []) ≡ length c.loop-seat.lanes + 1 = length-append c.loop-seat.lanes (c.in-Ok.lane ∷ []) in
    let left = c.loop-seat.invariant.3 in
    let many = c.loop-seat.invariant.2 in
    let next = c.in-Some.ensures {u = tt} in (
      search (rules, fresh_at),
      unused_pushed _ _ _ pushed (c.in-Ok.ensures {u = tt}) c.loop-seat.invariant.1,
      ap length pushed ∙ omega (arith, longer, many),
      omega (arith, left, next),
    )
