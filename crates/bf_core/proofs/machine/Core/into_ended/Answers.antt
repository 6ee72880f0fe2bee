use Rattle.std.proofs.Common.{List, length, sym, ap, ◌∙◌, subst}
use Rattle.bf_core.specs.Terms.{Event, Run}
use Rattle.bf_core.specs.Agreement.{IsOutcome}
use Rattle.bf_core.specs.Cores.{IsJournal}
use Rattle.bf_core.specs.Endings.{KeepsPools}
use Rattle.bf_core.specs.Events.{HasEnded}
use Rattle.bf_core.proofs.Kept.{replay_rows, replay_shaped, replay_outcome}
use Rattle.bf_core.proofs.Closing.{states_are}
use Rattle.bf_core.proofs.Pools.{legal_keeps_pools}
use Rattle.bf_core.proofs.machine.Core.into_ended.Goals as goal

pub write_states-requires-clause-rows : goal.write_states-requires-clause-rows
write_states-requires-clause-rows c = rw c.as_slice.ensures (replay_rows _ c.self.invariant.replayed)

pub write_states-requires-clause-room : goal.write_states-requires-clause-room
write_states-requires-clause-room c =
    let count : _ = (replay_shaped _ c.self.invariant.replayed).count in
    c.self.invariant.rooms_fit ∙ sym (ap (λ (rs : List Run). length rs) c.as_slice.ensures ∙ count)

pub invariant_of-result : goal.invariant_of-result
invariant_of-result c =
    let inside = c.self.inside in
    let replayed = c.self.invariant.replayed in
    let closed : HasEnded inside.state = rw (← c.self.view_is) at (c.is_ended.ensures.0 c.if-not-is_ended.false) in
    let outcome : IsOutcome inside.plan.now.dag inside.runs inside.state = replay_outcome _ replayed closed in
    let count : _ = (replay_shaped _ replayed).count in
    let are : _ = rw c.as_slice.ensures at c.write_states.ensures in
    let pools : KeepsPools inside.plan.now.dag inside.plan.now.limits inside.runs inside.journal.items = legal_keeps_pools _ _ _ _ replayed.by_journal.legal in
    record {
      closed = closed;
      outcome = outcome;
      run_states = rw c.from_vec.ensures (states_are inside.plan.now.dag replayed.sound inside.runs inside.state _ count outcome are);
      journal = subst (λ (es : List Event). IsJournal inside.plan.now.dag inside.plan.now.limits inside.runs es inside.state) (sym c.from_vec-2.ensures) replayed.by_journal;
      pools = subst (λ (es : List Event). KeepsPools inside.plan.now.dag inside.plan.now.limits inside.runs es) (sym c.from_vec-2.ensures) pools;
    }
