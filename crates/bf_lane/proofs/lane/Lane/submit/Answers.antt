use Rattle.std.proofs.Common.{◌≡◌, false, sym, subst}
use Rattle.bf_lane.specs.Open.{Scheduled, awaits}
use Rattle.bf_lane.proofs.Opening.{is_idle, open_submitted}
use Rattle.bf_lane.proofs.lane.Lane.submit.Goals as goal

pub invariant_of-self : goal.invariant_of-self
invariant_of-self g c =
    let awaits_none = subst (λ (lane : Scheduled). awaits lane ≡ false) (sym c.self.view_is) c.requires in
    let idle = is_idle c.self.inside.queues.now _ c.self.inside.puts c.self.inside.gathers c.self.inside.is_busy c.self.invariant awaits_none in
    open_submitted c.self.inside.queues.now _ c.self.inside.puts c.wait_and_put.new.seat c.self.inside.gathers c.args.ticket idle c.wait_and_put.ensures.seat c.wait_and_put.ensures.put
