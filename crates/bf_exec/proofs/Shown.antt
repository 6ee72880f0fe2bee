-- What was shown of the events that came.
use Rattle.std.proofs.Common.{◌≡◌, ◌++◌, ◌∷◌, ◌-◌, ℕ, List, [], length, None, Some, slice_get, refl, sym, ap, ◌∙◌, subst, subst₂, arith, append_assoc, length-append}
use Rattle.std.proofs.lemmas.List.{append-nil}
use Rattle.bf_core.specs.Terms.{Dag, Limits}
use Rattle.bf_core.specs.declared.event.Event.{Event}
use Rattle.bf_core.specs.declared.state.State.{State}
use Rattle.bf_core.specs.Cores.{Backfill, moved, opening}
use Rattle.bf_core.specs.Events.{after, replay}
use Rattle.bf_core.specs.Running.{running_now}
use Rattle.bf_core.specs.Endings.{Ending, ending_of}
use Rattle.bf_sched.specs.Scheduling.{Schedule}
use Rattle.bf_exec.specs.Shown.{AreShown, HasShown}
use Rattle.bf_exec.specs.inner.Shown.{ShowsLast, WasShown}

-- ---- the event that came last

last_at : (before : List Event) (event : Event) → slice_get (before ++ event ∷ []) (length before) ≡ Some event
last_at [] event = refl
last_at (x ∷ before) event = last_at before event

ends_with : (before now : Backfill) (event : Event) (events : List Event) → events ≡ now.journal → now ≡ moved before event → slice_get events (length events - 1) ≡ Some event
ends_with before now event events are is =
    let whole : events ≡ before.journal ++ event ∷ [] = are ∙ ap (λ (b : Backfill). b.journal) is in
    let long : length (before.journal ++ event ∷ []) - 1 ≡ length before.journal = omega (arith, length-append before.journal (event ∷ [])) in
    subst (λ (xs : List Event). slice_get xs (length xs - 1) ≡ Some event) (sym whole) (ap (slice_get (before.journal ++ event ∷ [])) long ∙ last_at before.journal event)

replay_append : (dag : Dag) (state : State) (xs ys : List Event) → replay dag state (xs ++ ys) ≡ replay dag (replay dag state xs) ys
replay_append dag state [] ys = refl
replay_append dag state (x ∷ xs) ys = replay_append dag (after dag state x) xs ys

module _ {S : Type 0} (shows : S → Event → ℕ → S → Type 0) where
  pub shown_last : (old new : S) (now : Backfill) (events : List Event) (seen : Event) (running : ℕ) → events ≡ now.journal → Some seen ≡ slice_get events (length events - 1) → running ≡ running_now now.state →
      shows old seen running new → ShowsLast shows old new now
  shown_last old new now events seen running are at count was = λ before event is.
      let last : slice_get events (length events - 1) ≡ Some event = ends_with before now event events are is in
      let same : seen ≡ event = cc in
      subst₂ (λ (e : Event) (n : ℕ). shows old e n new) same count was

  pub none_last : (old new : S) (now : Backfill) (events : List Event) → events ≡ now.journal → None ≡ slice_get events (length events - 1) → ShowsLast shows old new now
  none_last old new now events are at = λ before event is.
      let last : slice_get events (length events - 1) ≡ Some event = ends_with before now event events are is in
      absurd (cc)

  -- ---- what was shown of a part

  -- nothing came
  pub still_shown : (old : S) (before : Backfill) → HasShown shows old old before before
  still_shown old before = record { events = []; dag_is = refl; journal_is = sym (append-nil before.journal); state_is = refl; shown = refl }

  pub same_shown : (old : S) (before now : Backfill) → now ≡ before → HasShown shows old old before now
  same_shown old before now is = subst (HasShown shows old old before) (sym is) (still_shown old before)

  -- one event came
  pub one_shown : (old new : S) (before now : Backfill) (event : Event) → now ≡ moved before event → ShowsLast shows old new now → HasShown shows old new before now
  one_shown old new before now event is last = record {
    events = event ∷ [];
    dag_is = ap (λ (b : Backfill). b.dag) is;
    journal_is = ap (λ (b : Backfill). b.journal) is;
    state_is = ap (λ (b : Backfill). b.state) is;
    shown = (new, subst (λ (s : State). shows old event (running_now s) new) (ap (λ (b : Backfill). b.state) is) (last before event is), refl);
  }

  shown_append : (dag : Dag) (state : State) (xs ys : List Event) (old mid new : S) → AreShown shows dag state xs old mid → AreShown shows dag (replay dag state xs) ys mid new → AreShown shows dag state (xs ++ ys) old new
  shown_append dag state [] ys old mid new h k = subst (λ (o : S). AreShown shows dag state ys o new) h k
  shown_append dag state (x ∷ xs) ys old mid new h k = (h.0, h.1, shown_append dag (after dag state x) xs ys h.0 mid new h.2 k)

  pub then_shown : (old mid new : S) (b c d : Backfill) → HasShown shows old mid b c → HasShown shows mid new c d → HasShown shows old new b d
  then_shown old mid new b c d h k = record {
    events = h.events ++ k.events;
    dag_is = k.dag_is ∙ h.dag_is;
    journal_is = k.journal_is ∙ (ap (λ (js : List Event). js ++ k.events) h.journal_is ∙ append_assoc b.journal h.events k.events);
    state_is = k.state_is ∙ ((λ i. replay (h.dag_is i) (h.state_is i) k.events) ∙ sym (replay_append b.dag b.state h.events k.events));
    shown = shown_append b.dag b.state h.events k.events old mid new h.shown (subst₂ (λ (dag : Dag) (state : State). AreShown shows dag state k.events mid new) h.dag_is h.state_is k.shown);
  }

  -- ---- in a turn

  -- the clock has caught up, and then an event has come
  pub acted_shown : (old mid new : S) (s p t : Schedule) (event : Event) → HasShown shows old mid s.backfill p.backfill → t.backfill ≡ moved p.backfill event → ShowsLast shows mid new t.backfill → HasShown shows old new s.backfill t.backfill
  acted_shown old mid new s p t event h is last = then_shown old mid new s.backfill p.backfill t.backfill h (one_shown mid new p.backfill t.backfill event is last)

  -- the clock has caught up, a try has begun, and then it may have ended at once
  pub begun_shown : (old mid begun new : S) (s p q t : Schedule) (event : Event) → HasShown shows old mid s.backfill p.backfill → q.backfill ≡ moved p.backfill event → ShowsLast shows mid begun q.backfill → HasShown shows begun new q.backfill t.backfill → HasShown shows old new s.backfill t.backfill
  begun_shown old mid begun new s p q t event h is last k = then_shown old begun new s.backfill q.backfill t.backfill (acted_shown old mid begun s p q event h is last) k

  -- the clock has caught up, nothing has come, and then an answer was waited for
  pub awaited_shown : (old mid new : S) (s p q t : Schedule) → HasShown shows old mid s.backfill p.backfill → q ≡ p → HasShown shows mid new q.backfill t.backfill → HasShown shows old new s.backfill t.backfill
  awaited_shown old mid new s p q t h is k = then_shown old mid new s.backfill p.backfill t.backfill h (subst (λ (x : Schedule). HasShown shows mid new x.backfill t.backfill) is k)

  -- the clock has caught up, and nothing has come
  pub idle_shown : (old new : S) (s p t : Schedule) → HasShown shows old new s.backfill p.backfill → t ≡ p → HasShown shows old new s.backfill t.backfill
  idle_shown old new s p t h is = subst (λ (x : Schedule). HasShown shows old new s.backfill x.backfill) (sym is) h

  -- ---- at the end

  pub all_shown : (old new : S) (b c : Backfill) (dag : Dag) (limits : Limits) (runs : ℕ) (ended : Ending) → b ≡ opening dag limits runs → HasShown shows old new b c → ended ≡ ending_of c ended.run_states → WasShown shows dag runs old new ended
  all_shown old new b c dag limits runs ended is h same =
      let grown : ended.journal ≡ h.events = ap (λ (e : Ending). e.journal) same ∙ (h.journal_is ∙ ap (λ (x : Backfill). x.journal ++ h.events) is) in
      subst (λ (p : Dag × State × List Event). AreShown shows p.0 p.1 p.2 old new) (λ i. ((is i).dag, (is i).state, sym grown i)) h.shown
