-- What keeps the lanes and the backfill in step when an event comes.
use Rattle.std.proofs.Common.{◌≡◌, ◌+◌, ℕ, ℤ, List, length, refl, ap, ◌∙◌, arith}
use Rattle.bf_try.specs.Asked.{Asked, Answered}
use Rattle.bf_core.specs.Terms.{Dag, Limits, Outcome}
use Rattle.bf_core.specs.declared.event.Event.{Event}
use Rattle.bf_core.specs.Events.{cell_at, given_in, place_in, start}
use Rattle.bf_core.specs.Cores.{Backfill, IsReplay, MayCome, moved, opening}
use Rattle.bf_core.specs.Running.{running_tries}
use Rattle.bf_core.proofs.Kept.{replay_event, replay_shaped}
use Rattle.bf_core.proofs.RunningTries.{asked_in, fewer_running, more_running, running_after, start_idle}
use Rattle.bf_lane.specs.declared.messages.Answer.TheVariants.{Done}
use Rattle.bf_lane.specs.Open.{Scheduled}
use Rattle.bf_lane.specs.Rounds.{IsGathered, IsSubmitted}
use Rattle.bf_exec.specs.Accounts.{IsInStep, NoneStopped, gathered_sum, submitted_sum}
use Rattle.bf_exec.specs.inner.Accounts.{AreUnused}
use Rattle.bf_exec.proofs.Sums.{gathered_length, gathered_more, gathered_runs, gathered_submitted, submitted_gathered, submitted_length, submitted_more, submitted_runs, unused_gathered, unused_runs, unused_submitted}

-- ---- one event

-- what the lanes went through beside the event
pub record AreMoved (lanes next : List Scheduled) (b : Backfill) (e : Event) : Type 0 where
  pub many : length next ≡ length lanes
  pub runs : NoneStopped lanes → NoneStopped next
  pub submitted : (h : Asked → ℕ) → submitted_sum h next ≡ submitted_sum h lanes + more_running h b.dag b.state e
  pub gathered : (h : Asked → ℕ) → gathered_sum h next ≡ gathered_sum h lanes + fewer_running h b.dag b.state e

moved_in_step : (lanes next : List Scheduled) (b : Backfill) (workers : ℕ) (e : Event) → IsInStep lanes b workers → MayCome b e → AreMoved lanes next b e → IsInStep next (moved b e) workers
moved_in_step lanes next b workers e is able beside = record {
  replayed = replay_event b e is.replayed able;
  lane_each = beside.many ∙ is.lane_each;
  none_stopped = beside.runs is.none_stopped;
  accounted = record {
    equal = λ h.
        let r : _ = running_after b.dag b.runs b.state (replay_shaped b is.replayed) h b.limits e able.0 in
        let a : _ = is.accounted.equal h in
        let s : _ = beside.submitted h in
        let g : _ = beside.gathered h in
        omega (arith, r, a, s, g);
  };
}

-- no try begins or ends by the event
pub record IsStill (b : Backfill) (e : Event) : Type 0 where
  pub none_begins : (h : Asked → ℕ) → more_running h b.dag b.state e ≡ 0
  pub none_ends : (h : Asked → ℕ) → fewer_running h b.dag b.state e ≡ 0

pub still_in_step : (lanes : List Scheduled) (b : Backfill) (workers : ℕ) (e : Event) → IsInStep lanes b workers → MayCome b e → IsStill b e → IsInStep lanes (moved b e) workers
still_in_step lanes b workers e is able still =
    moved_in_step lanes lanes b workers e is able (record {
      many = refl;
      runs = λ none. none;
      submitted = λ h. let m : _ = still.none_begins h in omega (arith, m);
      gathered = λ h. let f : _ = still.none_ends h in omega (arith, f);
    })

pub tick_in_step : (lanes : List Scheduled) (b : Backfill) (workers : ℕ) (m : ℤ) → IsInStep lanes b workers → MayCome b (Event.Tick m) → IsInStep lanes (moved b (Event.Tick m)) workers
tick_in_step lanes b workers m is able = still_in_step lanes b workers (Event.Tick m) is able (record { none_begins = λ h. refl; none_ends = λ h. refl })

pub begin_in_step : (lanes next : List Scheduled) (b : Backfill) (workers at : ℕ) (t : Asked) → IsInStep lanes b workers → MayCome b (Event.Begin t.name) →
    t.given ≡ given_in (cell_at b.state t.name.run t.name.task) (place_in b.dag t.name) → IsSubmitted lanes next at t → IsInStep next (moved b (Event.Begin t.name)) workers
begin_in_step lanes next b workers at t is able given sent =
    moved_in_step lanes next b workers (Event.Begin t.name) is able (record {
      many = submitted_length lanes next at t sent;
      runs = submitted_runs lanes next at t sent;
      submitted = λ h.
          let s : _ = submitted_more lanes next at t sent h in
          let same : h t ≡ h (asked_in b.dag b.state t.name) = ap (λ g. h (record { name = t.name; given = g })) given in
          omega (arith, s, same);
      gathered = λ h. let g : _ = submitted_gathered lanes next at t sent h in omega (arith, g);
    })

pub end_in_step : (lanes next : List Scheduled) (b : Backfill) (workers at : ℕ) (d : Answered) (o : Outcome) → IsInStep lanes b workers → MayCome b (Event.End d.name o) →
    given_in (cell_at b.state d.name.run d.name.task) (place_in b.dag d.name) ≡ d.given → IsGathered lanes next at (Done d) → IsInStep next (moved b (Event.End d.name o)) workers
end_in_step lanes next b workers at d o is able given got =
    moved_in_step lanes next b workers (Event.End d.name o) is able (record {
      many = gathered_length lanes next at (Done d) got;
      runs = gathered_runs lanes next at (Done d) got;
      submitted = λ h. let s : _ = gathered_submitted lanes next at (Done d) got h in omega (arith, s);
      gathered = λ h.
          let g : _ = gathered_more lanes next at (Done d) got h in
          let same : h (asked_in b.dag b.state d.name) ≡ h (record { name = d.name; given = d.given }) = ap (λ x. h (record { name = d.name; given = x })) given in
          omega (arith, g, same);
    })

-- a try has begun and ended, and no lane has heard of it
pub made_in_step : (lanes : List Scheduled) (b : Backfill) (workers : ℕ) (t : Asked) (d : Answered) (o : Outcome) → IsInStep lanes b workers → MayCome b (Event.Begin t.name) →
    t.given ≡ given_in (cell_at b.state t.name.run t.name.task) (place_in b.dag t.name) → MayCome (moved b (Event.Begin t.name)) (Event.End d.name o) →
    given_in (cell_at (moved b (Event.Begin t.name)).state d.name.run d.name.task) (place_in (moved b (Event.Begin t.name)).dag d.name) ≡ d.given → d.name ≡ t.name → d.given ≡ t.given →
    IsInStep lanes (moved (moved b (Event.Begin t.name)) (Event.End d.name o)) workers
made_in_step lanes b workers t d o is begins given ends gives named alike = record {
  replayed = replay_event c (Event.End d.name o) begun ends;
  lane_each = is.lane_each;
  none_stopped = is.none_stopped;
  accounted = record {
    equal = λ h.
        let first : _ = running_after b.dag b.runs b.state (replay_shaped b is.replayed) h b.limits (Event.Begin t.name) begins.0 in
        let then : _ = running_after c.dag c.runs c.state (replay_shaped c begun) h c.limits (Event.End d.name o) ends.0 in
        let a : _ = is.accounted.equal h in
        let more : h t ≡ h (asked_in b.dag b.state t.name) = ap (λ g. h (record { name = t.name; given = g })) given in
        let fewer : h (asked_in c.dag c.state d.name) ≡ h (record { name = d.name; given = d.given }) = ap (λ g. h (record { name = d.name; given = g })) gives in
        let same : h (record { name = d.name; given = d.given }) ≡ h t = (λ i. h (record { name = named i; given = alike i })) in
        omega (arith, first, then, a, more, fewer, same);
  };
}
  where
    c : Backfill
    c = moved b (Event.Begin t.name)

    begun : IsReplay c
    begun = replay_event b (Event.Begin t.name) is.replayed begins

-- ---- the start

pub opening_in_step : (lanes : List Scheduled) (dag : Dag) (limits : Limits) (runs workers : ℕ) → IsReplay (opening dag limits runs) → AreUnused lanes → length lanes ≡ workers → IsInStep lanes (opening dag limits runs) workers
opening_in_step lanes dag limits runs workers replayed unused many = record {
  replayed = replayed;
  lane_each = many;
  none_stopped = unused_runs lanes unused;
  accounted = record {
    equal = λ h.
        let s : _ = unused_submitted h lanes unused in
        let g : _ = unused_gathered h lanes unused in
        let r : running_tries h dag (start dag runs) ≡ 0 = start_idle dag runs _ in
        omega (arith, s, g, r);
  };
}
