-- What a core comes to when a try begins, and when one ends.
use Rattle.std.proofs.Common.{◌≡◌, ◌≤◌, ◌+◌, ◌-◌, ℕ, ap, ◌∙◌}
use Rattle.std.specs.FinMap as map
use Rattle.bf_pool.specs.Slots.{Slots, occupied_of, size_of, HasOccupied}
use Rattle.bf_try.specs.declared.ledger.Ledger.{Ledger}
use Rattle.bf_core.specs.Terms.{Clock, Demand, Entry, Event, JobName, Outcome}
use Rattle.bf_core.specs.Events.{after, begun, cell_at, change_instance, ended, occupied, place_in, put, put_in}
use Rattle.bf_core.specs.Clocks.{after_end, clock_after}
use Rattle.bf_core.specs.Cores.{Backfill, IsCore, MayCome}
use Rattle.bf_core.specs.inner.Tries.{IsBeginning, IsEnding}
use Rattle.bf_core.specs.declared.machine.Ending.{Ending}
use Rattle.bf_core.proofs.Enabling.{has_room}
use Rattle.bf_core.proofs.Kept.{replay_shaped}
use Rattle.bf_core.proofs.Pools.{takes, occupied_begun, occupied_ended}
use Rattle.bf_core.proofs.Slotted.{taken, given_back, slots_held, fits_room}
use Rattle.bf_core.proofs.Timing.{retried}

module _ (b : Backfill) (pools : Slots) (rooms opened active : ℕ) (core : IsCore b pools rooms opened active) (n : JobName) where
  module _ (d : Demand) (is : IsBeginning b n d) where
    -- it may begin where its slots fit the counters
    pub may_begin : occupied_of pools d.pool + d.slots ≤ size_of pools d.pool → MayCome b (Event.Begin n)
    may_begin fits = ((is.present, has_room b.limits b.state n.task (fits_room b.limits pools b.state n.task core.sizes core.held (rw is.demand_is at fits))), is.timely)

    pub begun_state : (i : ℕ) → i ≡ place_in b.dag n → put b.state n.run n.task (change_instance begun (cell_at b.state n.run n.task) i) ≡ after b.dag b.state (Event.Begin n)
    unfolding after
    begun_state i at = ap (λ j. put b.state n.run n.task (change_instance begun (cell_at b.state n.run n.task) j)) at

    pub begun_slots : (new : Slots) → HasOccupied pools d.pool (occupied_of pools d.pool + d.slots) new → (q : ℕ) → occupied_of new q ≡ occupied b.limits (after b.dag b.state (Event.Begin n)) q
    unfolding after
    begun_slots new taken_there =
        taken b.limits pools new b.state (put b.state n.run n.task (change_instance begun (cell_at b.state n.run n.task) (place_in b.dag n))) n.task (rw is.demand_is at taken_there) core.held
        (occupied_begun b.dag b.limits b.runs b.state (replay_shaped b core.replayed) n is.present)

  module _ (o : Outcome) (ending : Ending) (is : IsEnding b n o ending) where
    pub ended_state : (ledger : Ledger) → ledger ≡ map.insert b.state.ledger n ending.entry →
        put (record { runs = b.state.runs; ledger = ledger }) n.run n.task (change_instance (ended ending.retries ending.kept) (cell_at b.state n.run n.task) ending.place) ≡ after b.dag b.state (Event.End n o)
    unfolding after
    ended_state ledger noted =
        let by_entry : ledger ≡ map.insert b.state.ledger n _ = noted ∙ ap (λ (e : Entry). map.insert b.state.ledger n e) is.entry_is in
        λ i. record { runs = put_in b.state.runs n.run n.task (change_instance (ended (is.retries_are i) (is.kept_is i)) (cell_at b.state n.run n.task) (is.place_is i)); ledger = by_entry i }

    pub ended_clock : (clock : Clock) → clock ≡ after_end b.clock ending.retry.next ending.retry.again ending.retry.delay → clock ≡ clock_after b.dag b.limits b.clock (Event.End n o)
    ended_clock clock noted = noted ∙ retried b.clock _ _ _ _ _ _ is.retry_is.next_is is.retry_is.again_is is.retry_is.delay_is

    less : (q : ℕ) → occupied b.limits (after b.dag b.state (Event.End n o)) q + takes b.limits q n.task ≡ occupied b.limits b.state q
    unfolding after
    less q = occupied_ended b.dag b.limits b.runs b.state (replay_shaped b core.replayed) n o (after b.dag b.state (Event.End n o)).ledger is.able.0 q

    pub ended_held : ending.demand.slots ≤ occupied_of pools ending.demand.pool
    ended_held = rw is.demand_is (slots_held b.limits pools b.state (after b.dag b.state (Event.End n o)) n.task core.held less)

    pub ended_slots : (new : Slots) → HasOccupied pools ending.demand.pool (occupied_of pools ending.demand.pool - ending.demand.slots) new → (q : ℕ) → occupied_of new q ≡ occupied b.limits (after b.dag b.state (Event.End n o)) q
    ended_slots new given_there = given_back b.limits pools new b.state (after b.dag b.state (Event.End n o)) n.task (rw is.demand_is at given_there) core.held less
