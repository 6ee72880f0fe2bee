-- Which steps an event may make possible.
use Rattle.std.proofs.Common.{◌≡◌, ◌⊎◌, ℕ, zero, suc, Bool, true, false, not, ◌&&◌, ◌||◌, List, Option, None, Some, is_some, refl, sym, ap, ◌∙◌, subst, subst₂, inl, inr, arith}
use Rattle.std.proofs.lemmas.Bool.{both_ways, cases_Bool}
use Rattle.bf_plan.proofs.PlanLemmas.{is_upstream}
use Rattle.bf_core.specs.Terms.{Dag, Limits, IsOneOf, IsSound, TaskValue, task_of, is_branch_in, is_waiting}
use Rattle.bf_core.specs.declared.state.State.{State}
use Rattle.bf_core.specs.declared.state.RunPhase.{RunPhase}
use Rattle.bf_core.specs.declared.state.Cell.{Cell}
use Rattle.bf_core.specs.declared.event.Event.{Event}
use Rattle.bf_core.specs.Deciding.{Seen, lets_decide_in}
use Rattle.bf_core.specs.Events.{after, before_in, cell_at, goes_on_in, seen_in, value_in, next_run, phase_of, put, with_phase, IsDecidable, IsEnabled}
use Rattle.bf_core.specs.Cores.{Backfill, IsReplay, MayCome, moved}
use Rattle.bf_core.proofs.Shape.{IsShaped, open_run_exists, phase_there, length_put}
use Rattle.bf_core.proofs.Kept.{replay_shaped}
use Rattle.bf_core.proofs.NextRun.{next_after}
use Rattle.bf_core.proofs.ActiveRuns.{put_active}
use Rattle.bf_due.specs.declared.agenda.Step.{Step}
use Rattle.bf_due.specs.declared.agenda.Turn.{Turn}
use Rattle.bf_due.specs.Agendas.{event_of}
use Rattle.bf_due.specs.declared.news.News.{News}
use Rattle.bf_due.specs.inner.Stirring.{decided_at, ended_at, is_settled, may_let_be_decided_in, may_let_early_in, waits_for_in}
use Rattle.bf_due.specs.inner.Dues.{Concerns, Hears, IsBehindNews, IsBelowNews, newest}
use Rattle.bf_due.proofs.Locality.{LooksAlike, PastTouched, RulesAlike, Touches, Turns, decidable_alike, goes_on_alike, past_kept, phase_kept, rules_alike, seen_kept, touches?, turns?, undecided_back, awaits_upstream}
use Rattle.bf_due.proofs.Reached.{settled_stays}
use Rattle.bf_due.proofs.Early.{IsTold, told_end, told_expand, told_settle, unmoved_rules}

-- ---- a task

-- of a task that may be decided after the event, and couldn't be so before: the run is opened, or the task hears the news
abbrev Reaches : Dag → State → Event → ℕ → ℕ → Type 0
Reaches dag s Event.Open k t = k ≡ newest s
Reaches dag s (Event.Settle j u) k t = Hears dag s (decided_at s j u) k t
Reaches dag s (Event.Expand j u) k t = Hears dag s (decided_at s j u) k t
Reaches dag s (Event.End n o) k t = Hears dag s (ended_at dag s n) k t
Reaches dag s e k t = ⊥

module _ (dag : Dag) (sound : IsSound dag) (limits : Limits) (s : State) (e : Event) (able : IsEnabled dag limits s e) where
  -- the past is as it was until it is settled
  past_open : (j u : ℕ) → is_settled (after dag s e) j u ≡ false → value_in (cell_at (after dag s e) j u) ≡ value_in (cell_at s j u)
  past_open j u h = elim (cases_Bool (is_settled s j u)) [
    | inl holds ↦ absurd (both_ways _ h (settled_stays dag limits s e able j u holds))
    | inr fails ↦ none_alike (value_in (cell_at (after dag s e) j u)) (value_in (cell_at s j u)) h fails
  ]
    where
      none_alike : (a b : Option TaskValue) → is_some a ≡ false → is_some b ≡ false → a ≡ b
      none_alike None None h g = refl
      none_alike None (Some v) h g = cc
      none_alike (Some v) b h g = cc

  module _ (n : News) (told : IsTold dag s e n) where
    -- a task isn't decided that waits for the one of the news, which isn't settled
    waits_on : (t : ℕ) → IsOneOf (task_of dag t).upstreams n.task → waits_for_in dag n.task t ≡ true → is_settled (after dag s e) n.run n.task ≡ false → IsDecidable dag (after dag s e) n.run t → ⊥
    waits_on t upstream waits unsettled = awaits_upstream dag (after dag s e) n.run t n.task upstream awaited
      where
        held : (a b : Bool) → (a || b) ≡ true → (not a && not b) ≡ false
        held true b h = refl
        held false true h = refl
        held false false h = cc

        awaited : lets_decide_in dag (task_of dag t) (λ v. seen_in (cell_at (after dag s e) n.run v)) n.task ≡ false
        awaited = ap (λ b. b || (not (is_waiting (task_of dag t).rule) && not (is_branch_in (task_of dag n.task)))) unsettled ∙ held (is_waiting (task_of dag t).rule) (is_branch_in (task_of dag n.task)) waits

    by_settled : (t : ℕ) → IsOneOf (task_of dag t).upstreams n.task → waits_for_in dag n.task t ≡ true → IsDecidable dag (after dag s e) n.run t → may_let_be_decided_in dag (after dag s e) n t ≡ true
    by_settled t upstream waits due = elim (cases_Bool (is_settled (after dag s e) n.run n.task)) [
      | inl holds ↦ rw (waits, holds)
      | inr fails ↦ absurd (waits_on t upstream waits fails due)
    ]

    moved_or : (t : ℕ) → IsOneOf (task_of dag t).upstreams n.task → IsDecidable dag (after dag s e) n.run t → RulesAlike dag (after dag s e) s n.run t ⊎ (may_let_be_decided_in dag (after dag s e) n t ≡ true)
    moved_or t upstream due = elim (cases_Bool (waits_for_in dag n.task t)) [
      | inl waits ↦ inr (by_settled t upstream waits due)
      | inr free ↦ elim (cases_Bool (may_let_early_in dag (after dag s e) n t)) [
        | inl holds ↦ inr (rw (free, holds))
        | inr fails ↦ inl (unmoved_rules dag limits s e able n told t free fails due)
      ]
    ]

    rules_or : (k t : ℕ) → IsDecidable dag (after dag s e) k t → RulesAlike dag (after dag s e) s k t ⊎ IsBelowNews dag (after dag s e) n k t
    rules_or k t due = elim (rules_alike dag sound limits s e able k t) [
      | inl alike ↦ inl alike
      | inr w ↦ moved (told.only k w.0 w.2) w.1
    ]
      where
        moved : {v : ℕ} → (k ≡ n.run) × (v ≡ n.task) → IsOneOf (task_of dag t).upstreams v → RulesAlike dag (after dag s e) s k t ⊎ IsBelowNews dag (after dag s e) n k t
        moved {v} here one =
            let upstream : IsOneOf (task_of dag t).upstreams n.task = subst (λ (u : ℕ). IsOneOf (task_of dag t).upstreams u) here.1 one in
            elim (moved_or t upstream (subst (λ (j : ℕ). IsDecidable dag (after dag s e) j t) here.0 due)) [
              | inl alike ↦ inl (subst (λ (j : ℕ). RulesAlike dag (after dag s e) s j t) (sym here.0) alike)
              | inr holds ↦ inr (here.0, is_upstream dag t n.task upstream, holds)
            ]

    past_or : (k t : ℕ) → (before_in (after dag s e) k t ≡ before_in s k t) ⊎ IsBehindNews (after dag s e) n k t
    past_or zero t = inl refl
    past_or (suc i) t = elim (touches? e i t) [
      | inr none ↦ inl (past_kept dag limits s e able (suc i) t none)
      | inl x ↦ elim (cases_Bool (is_settled (after dag s e) i t)) [
        | inr fails ↦ inl (past_open i t fails)
        | inl holds ↦ inr (let h : i ≡ n.run = (told.only i t x).0 in omega (arith, h), (told.only i t x).1, subst₂ (λ (j u : ℕ). is_settled (after dag s e) j u ≡ true) (told.only i t x).0 (told.only i t x).1 holds)
      ]
    ]

  module _ (k t : ℕ) (goes : Bool) (due : IsDecidable dag (after dag s e) k t × (goes_on_in dag (after dag s e) k t ≡ goes)) where
    -- it could be decided before, and in the same way
    abbrev Could : Type 0
    Could = IsDecidable dag s k t × (goes_on_in dag s k t ≡ goes)

    could : (Turns s e k → ⊥) → RulesAlike dag (after dag s e) s k t → before_in (after dag s e) k t ≡ before_in s k t → Could
    could turns rules past = (decidable_alike dag (after dag s e) s k t alike due.0, sym (goes_on_alike dag (after dag s e) s k t alike) ∙ due.1)
      where
        alike : LooksAlike dag (after dag s e) s k t
        alike = record { phase = phase_kept dag s e k turns; cell = undecided_back dag limits s e able k t; rules = rules; past = past }

    by_news : (n : News) → IsTold dag s e n → (Turns s e k → ⊥) → Could ⊎ Hears dag (after dag s e) n k t
    by_news n told turns = elim (rules_or n told k t due.0) [
      | inr below ↦ inr (inl below)
      | inl rules ↦ elim (past_or n told k t) [ inr behind ↦ inr (inr behind) | inl past ↦ inl (could turns rules past) ]
    ]

    untouched : ((a b : ℕ) → Touches e a b → ⊥) → (Turns s e k → ⊥) → Could
    untouched none turns = could turns rules (past_kept dag limits s e able k t (past_none k))
      where
        rules : RulesAlike dag (after dag s e) s k t
        rules = elim (rules_alike dag sound limits s e able k t) [ inl alike ↦ alike | inr w ↦ absurd (none k w.0 w.2) ]

        past_none : (j : ℕ) → PastTouched e j t → ⊥
        past_none zero x = x
        past_none (suc i) x = none i t x

same? : (a b : ℕ) → (a ≡ b) ⊎ (a ≡ b → ⊥)
same? a b = grind arith

not_open : (s : State) (k : ℕ) → phase_of s k ≡ RunPhase.Open → phase_of (with_phase s k RunPhase.Closed) k ≡ RunPhase.Open → ⊥
not_open s k was e = let f : RunPhase.Closed ≡ RunPhase.Open = sym (phase_there s k RunPhase.Closed (open_run_exists s k was)) ∙ e in cc

-- a run that was closed just now isn't open
closed_now : (dag : Dag) (s : State) (j k : ℕ) → phase_of s j ≡ RunPhase.Open → k ≡ j → phase_of (after dag s (Event.Close j)) k ≡ RunPhase.Open → ⊥
unfolding after
closed_now dag s j k was x e = not_open s j was (subst (λ (i : ℕ). phase_of (with_phase s j RunPhase.Closed) i ≡ RunPhase.Open) x e)

-- the run that an event opens is the newest after it
opened_last : (dag : Dag) (runs : ℕ) (limits : Limits) (s : State) → IsShaped dag runs s → IsEnabled dag limits s Event.Open → (k : ℕ) → k ≡ next_run s → k ≡ newest (after dag s Event.Open)
opened_last dag runs limits s shaped able k e = let next : next_run (after dag s Event.Open) ≡ suc (next_run s) = next_after dag runs limits s shaped Event.Open able in omega (arith, e, next)

-- ---- the close of a run

-- the event touches a task of the run
abbrev RunTouched : Event → ℕ → Type 0
RunTouched (Event.Settle k t) j = j ≡ k
RunTouched (Event.Expand k t) j = j ≡ k
RunTouched (Event.End n o) j = j ≡ n.run
RunTouched e j = ⊥

run-touched? : (e : Event) (j : ℕ) → RunTouched e j ⊎ ((u : ℕ) → Touches e j u → ⊥)
run-touched? Event.Open j = inr (λ u x. x)
run-touched? (Event.Settle k t) j = elim (same? j k) [ inl e ↦ inl e | inr n ↦ inr (λ u x. n x.0) ]
run-touched? (Event.Expand k t) j = elim (same? j k) [ inl e ↦ inl e | inr n ↦ inr (λ u x. n x.0) ]
run-touched? (Event.Begin n) j = inr (λ u x. x)
run-touched? (Event.End n o) j = elim (same? j n.run) [ inl e ↦ inl e | inr m ↦ inr (λ u x. m x.0) ]
run-touched? (Event.Close k) j = inr (λ u x. x)
run-touched? (Event.Tick m) j = inr (λ u x. x)

touched_close : (dag : Dag) (s : State) (e : Event) (k : ℕ) → RunTouched e k → Concerns dag s e (Step.Close k)
touched_close dag s Event.Open k x = absurd x
touched_close dag s (Event.Settle j u) k x = x
touched_close dag s (Event.Expand j u) k x = x
touched_close dag s (Event.Begin n) k x = absurd x
touched_close dag s (Event.End n o) k x = x
touched_close dag s (Event.Close j) k x = absurd x
touched_close dag s (Event.Tick m) k x = absurd x

turned_close : (dag : Dag) (runs : ℕ) (limits : Limits) (s : State) → IsShaped dag runs s → (e : Event) → IsEnabled dag limits s e → (k : ℕ) → Turns s e k → phase_of (after dag s e) k ≡ RunPhase.Open → Concerns dag (after dag s e) e (Step.Close k)
unfolding after
turned_close dag runs limits s shaped Event.Open able k x open_run = opened_last dag runs limits s shaped able k x
turned_close dag runs limits s shaped (Event.Settle j u) able k x open_run = absurd x
turned_close dag runs limits s shaped (Event.Expand j u) able k x open_run = absurd x
turned_close dag runs limits s shaped (Event.Begin n) able k x open_run = absurd x
turned_close dag runs limits s shaped (Event.End n o) able k x open_run = absurd x
turned_close dag runs limits s shaped (Event.Close j) able k x open_run = absurd (closed_now dag s j k able.0 x open_run)
turned_close dag runs limits s shaped (Event.Tick m) able k x open_run = absurd x

newly_closable : (dag : Dag) (runs : ℕ) (limits : Limits) (s : State) → IsShaped dag runs s → (e : Event) → IsEnabled dag limits s e → (k : ℕ) → IsEnabled dag limits (after dag s e) (Event.Close k) →
    IsEnabled dag limits s (Event.Close k) ⊎ Concerns dag (after dag s e) e (Step.Close k)
newly_closable dag runs limits s shaped e able k due = elim (turns? s e k) [
  | inl x ↦ inr (turned_close dag runs limits s shaped e able k x due.0)
  | inr same ↦ elim (run-touched? e k) [
    | inl x ↦ inr (touched_close dag (after dag s e) e k x)
    | inr none ↦ inl (sym (phase_kept dag s e k same) ∙ due.0, λ t l. ap (λ (x : Seen). is_some x.value) (sym (seen_kept dag limits s e able k t (none t))) ∙ due.1 t l)
  ]
]

-- ---- the opening of a run

module _ (dag : Dag) (runs : ℕ) (limits : Limits) (s : State) (shaped : IsShaped dag runs s) where
  put_openable : (k t : ℕ) (c : Cell) → next_run (put s k t c) ≡ next_run s → IsEnabled dag limits (put s k t c) Event.Open → IsEnabled dag limits s Event.Open
  put_openable k t c next due = (omega (arith, due.0, next, length_put s.runs k t c), omega (arith, due.1, put_active s k t c))

  newly_openable : (e : Event) → IsEnabled dag limits s e → IsEnabled dag limits (after dag s e) Event.Open → IsEnabled dag limits s Event.Open ⊎ Concerns dag (after dag s e) e Step.Open
  unfolding after
  newly_openable Event.Open able due = inl able
  newly_openable (Event.Settle k t) able due = inl (put_openable k t _ (next_after dag runs limits s shaped (Event.Settle k t) able) due)
  newly_openable (Event.Expand k t) able due = inl (put_openable k t _ (next_after dag runs limits s shaped (Event.Expand k t) able) due)
  newly_openable (Event.Begin n) able due = inl (put_openable n.run n.task _ (next_after dag runs limits s shaped (Event.Begin n) able) due)
  newly_openable (Event.End n o) able due = inl (put_openable n.run n.task _ (next_after dag runs limits s shaped (Event.End n o) able) due)
  newly_openable (Event.Close k) able due = inr tt
  newly_openable (Event.Tick m) able due = inl due

-- ---- any step

reached_settle : (dag : Dag) (s : State) (e : Event) (x : Turn) → Reaches dag s e x.run x.task → Concerns dag s e (Step.Settle x)
reached_settle dag s Event.Open x h = h
reached_settle dag s (Event.Settle j u) x h = h
reached_settle dag s (Event.Expand j u) x h = h
reached_settle dag s (Event.Begin n) x h = h
reached_settle dag s (Event.End n o) x h = h
reached_settle dag s (Event.Close j) x h = absurd h
reached_settle dag s (Event.Tick m) x h = h

reached_expand : (dag : Dag) (s : State) (e : Event) (x : Turn) → Reaches dag s e x.run x.task → Concerns dag s e (Step.Expand x)
reached_expand dag s Event.Open x h = h
reached_expand dag s (Event.Settle j u) x h = h
reached_expand dag s (Event.Expand j u) x h = h
reached_expand dag s (Event.Begin n) x h = h
reached_expand dag s (Event.End n o) x h = h
reached_expand dag s (Event.Close j) x h = absurd h
reached_expand dag s (Event.Tick m) x h = h

-- a task that may be decided could be so before the event, and in the same way, or the event reaches it
newly_decidable : (dag : Dag) → IsSound dag → (runs : ℕ) (limits : Limits) (s : State) → IsShaped dag runs s → (e : Event) → IsEnabled dag limits s e → (k t : ℕ) → (goes : Bool) →
    IsDecidable dag (after dag s e) k t × (goes_on_in dag (after dag s e) k t ≡ goes) → (IsDecidable dag s k t × (goes_on_in dag s k t ≡ goes)) ⊎ Reaches dag (after dag s e) e k t
newly_decidable dag sound runs limits s shaped Event.Open able k t goes due = elim (same? k (next_run s)) [
  | inl x ↦ inr (opened_last dag runs limits s shaped able k x)
  | inr n ↦ inl (untouched dag sound limits s Event.Open able k t goes due (λ a b x. x) n)
]
newly_decidable dag sound runs limits s shaped (Event.Settle j u) able k t goes due =
    by_news dag sound limits s (Event.Settle j u) able k t goes due (decided_at (after dag s (Event.Settle j u)) j u) (told_settle dag limits s j u able) (λ x. x)
newly_decidable dag sound runs limits s shaped (Event.Expand j u) able k t goes due =
    by_news dag sound limits s (Event.Expand j u) able k t goes due (decided_at (after dag s (Event.Expand j u)) j u) (told_expand dag limits s j u able) (λ x. x)
newly_decidable dag sound runs limits s shaped (Event.Begin n) able k t goes due = inl (untouched dag sound limits s (Event.Begin n) able k t goes due (λ a b x. x) (λ x. x))
newly_decidable dag sound runs limits s shaped (Event.End n o) able k t goes due =
    by_news dag sound limits s (Event.End n o) able k t goes due (ended_at dag (after dag s (Event.End n o)) n) (told_end dag limits s n o able) (λ x. x)
newly_decidable dag sound runs limits s shaped (Event.Tick m) able k t goes due = inl (untouched dag sound limits s (Event.Tick m) able k t goes due (λ a b x. x) (λ x. x))
newly_decidable dag sound runs limits s shaped (Event.Close j) able k t goes due = elim (same? k j) [
  | inl x ↦ absurd (closed_now dag s j k able.0 x due.0.run_is_open)
  | inr n ↦ inl (untouched dag sound limits s (Event.Close j) able k t goes due (λ a b x. x) n)
]

-- a step that may come after the event could come before it, or the event concerns it
pub newly_due : (b : Backfill) → IsReplay b → (e : Event) → MayCome b e → (x : Step) → MayCome (moved b e) (event_of x) → MayCome b (event_of x) ⊎ Concerns b.dag (moved b e).state e x
newly_due b is e able (Step.Close k) due = elim (newly_closable b.dag b.runs b.limits b.state (replay_shaped b is) e able.0 k due.0) [ inl h ↦ inl (h, tt) | inr c ↦ inr c ]
newly_due b is e able Step.Open due = elim (newly_openable b.dag b.runs b.limits b.state (replay_shaped b is) e able.0 due.0) [ inl h ↦ inl (h, tt) | inr c ↦ inr c ]
newly_due b is e able (Step.Settle x) due = elim (newly_decidable b.dag is.sound b.runs b.limits b.state (replay_shaped b is) e able.0 x.run x.task false due.0) [
  | inl h ↦ inl (h, tt)
  | inr r ↦ inr (reached_settle b.dag (after b.dag b.state e) e x r)
]
newly_due b is e able (Step.Expand x) due = elim (newly_decidable b.dag is.sound b.runs b.limits b.state (replay_shaped b is) e able.0 x.run x.task true due.0) [
  | inl h ↦ inl (h, tt)
  | inr r ↦ inr (reached_expand b.dag (after b.dag b.state e) e x r)
]
