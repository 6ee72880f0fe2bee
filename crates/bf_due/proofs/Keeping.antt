-- What is kept stays up to date over an event, and its first step is the next.
use Rattle.std.proofs.Common.{◌≡◌, ◌⊎◌, ℕ, List, [], length, slice_get, None, Some, IfSome, Contains, refl, sym, ap, ◌∙◌, subst, inl, inr, arith}
use Rattle.bf_graph.specs.Edges.{IsRank}
use Rattle.bf_graph.specs.Ranks.{Ranking}
use Rattle.bf_plan.specs.Plans.{shape_of}
use Rattle.bf_pool.proofs.WeightFacts.{tasks_there}
use Rattle.bf_core.specs.Terms.{Dag}
use Rattle.bf_core.specs.declared.state.State.{State}
use Rattle.bf_core.specs.declared.state.Phase.{Phase}
use Rattle.bf_core.specs.declared.event.Event.{Event}
use Rattle.bf_core.specs.Events.{after, next_run}
use Rattle.bf_core.specs.Cores.{Backfill, IsReplay, MayCome, moved}
use Rattle.bf_core.proofs.Enabling.{present_there}
use Rattle.bf_core.proofs.Kept.{replay_rows, replay_shaped}
use Rattle.bf_core.proofs.NextRun.{open_before}
use Rattle.bf_core.proofs.Shape.{open_run_exists}
use Rattle.bf_due.specs.declared.agenda.Step.{Step}
use Rattle.bf_due.specs.declared.agenda.Turn.{Turn}
use Rattle.bf_due.specs.Steps.{ComesBefore, IsEarlier, IsNextStep, IsStep}
use Rattle.bf_due.specs.Agendas.{event_of}
use Rattle.bf_due.specs.inner.Agendas.{Comes, TurnComes}
use Rattle.bf_due.specs.declared.cursors.Cursors.{Cursors}
use Rattle.bf_due.specs.Cursors.{AreNoted}
use Rattle.bf_due.specs.Dues.{HasAdded, IsRanked, IsUpToDate, Kept}
use Rattle.bf_due.specs.inner.Dues.{AsksAll, Concerns, IsPruned, IsOfRunBelow, IsOpening, SpeaksOfTask}
use Rattle.bf_due.proofs.Adding.{one_rank}
use Rattle.bf_due.proofs.AgendaFacts.{top_in, no_items}
use Rattle.bf_due.proofs.Newly.{newly_due}
use Rattle.bf_due.proofs.Reached.{none_reached, reached_stays}

-- ---- an event

-- there are as many runs after the event as before
same_runs : (b now : Backfill) (e : Event) → IsReplay b → IsReplay now → now ≡ moved b e → length now.state.runs ≡ length b.state.runs
same_runs b now e is was same =
    let runs : now.runs ≡ b.runs = ap (λ (n : Backfill). n.runs) same in
    (replay_shaped now was).count ∙ (runs ∙ sym (replay_shaped b is).count)

speaks_before : (b : Backfill) → IsReplay b → (e : Event) → MayCome b e → SpeaksOfTask b.dag b.state e
speaks_before b is Event.Open able = tt
speaks_before b is (Event.Settle k t) able = (open_run_exists b.state k able.0.0.run_is_open, able.0.0.is_task)
speaks_before b is (Event.Expand k t) able = (open_run_exists b.state k able.0.0.run_is_open, able.0.0.is_task)
speaks_before b is (Event.Begin n) able = tt
speaks_before b is (Event.End n o) able = present_there b.dag b.state (replay_rows b is) n Phase.Running able.0.0
speaks_before b is (Event.Close k) able = tt
speaks_before b is (Event.Tick m) able = tt

speaks_as : (d e : Dag) (r s : State) → d ≡ e → length r.runs ≡ length s.runs → (x : Event) → SpeaksOfTask e s x → SpeaksOfTask d r x
speaks_as d e r s dags count Event.Open h = tt
speaks_as d e r s dags count (Event.Settle k t) h = (omega (arith, count, h.0), rw dags h.1)
speaks_as d e r s dags count (Event.Expand k t) h = (omega (arith, count, h.0), rw dags h.1)
speaks_as d e r s dags count (Event.Begin n) h = tt
speaks_as d e r s dags count (Event.End n o) h = (omega (arith, count, h.0), rw dags h.1)
speaks_as d e r s dags count (Event.Close k) h = tt
speaks_as d e r s dags count (Event.Tick m) h = tt

-- what an event that could come speaks of is there
pub speaks : (b now : Backfill) (e : Event) → IsReplay b → IsReplay now → MayCome b e → now ≡ moved b e → SpeaksOfTask now.dag now.state e
speaks b now e is was able same = speaks_as now.dag b.dag now.state b.state (ap (λ (n : Backfill). n.dag) same) (same_runs b now e is was same) e (speaks_before b is e able)

-- what is kept is up to date after the event, where it was so before it
pub keeps : (b now : Backfill) (e : Event) → IsReplay now → MayCome b e → now ≡ moved b e → (old : Kept) → IsUpToDate b old → (rows after : List Cursors) (mid new : List Step) →
    AsksAll now (Concerns now.dag now.state e) old.progress rows old.steps mid → ((n : Backfill) → AreNoted n rows → AreNoted n after) → (AreNoted now after → IsPruned now mid new) → (room : ℕ) → IsUpToDate now (record { steps = new; room = room; progress = after })
keeps b now e was able same old is rows after mid new asks forgets prunes room = record {
  replayed = was;
  ranking = subst (λ (d : Dag). Ranking (shape_of d).upstreams) (sym dags) is.ranking;
  holds = λ x due. cleaned.kept x (elim (newly_due b is.replayed e able x (subst (λ (n : Backfill). MayCome n (event_of x)) same due.1)) [
    | inl before ↦ added.kept x (is.holds x (subst (λ (d : Dag). IsRanked d x) dags due.0, before))
    | inr c ↦ added.added x (subst (λ (n : Backfill). Concerns n.dag n.state e x) (sym same) c) due
  ]) due.1;
  ranked = λ x c. added.ranked (λ y h. subst (λ (d : Dag). IsRanked d y) (sym dags) (is.ranked y h)) x (cleaned.fewer x c);
  live = cleaned.live;
  reached = noted;
}
  where
    reached : AreNoted now old.progress
    reached = reached_stays b now e able same old.progress is.reached

    noted : AreNoted now after
    noted = forgets now (asks reached).0

    cleaned : IsPruned now mid new
    cleaned = prunes noted

    added : HasAdded now (Concerns now.dag now.state e) old.steps mid
    added = (asks reached).1

    dags : now.dag ≡ b.dag
    dags = ap (λ (n : Backfill). n.dag) same

-- room that was made, and rows that were made, leave it up to date
pub room_made : (b : Backfill) (old new : Kept) → new.steps ≡ old.steps → (AreNoted b old.progress → AreNoted b new.progress) → IsUpToDate b old → IsUpToDate b new
room_made b old new steps rows is = record {
  replayed = is.replayed;
  ranking = is.ranking;
  holds = λ x due. subst (λ (xs : List Step). Contains xs x) (sym steps) (is.holds x due);
  ranked = λ x c. is.ranked x (subst (λ (xs : List Step). Contains xs x) steps c);
  live = subst (λ (xs : List Step). IfSome (slice_get xs 0) (λ y. MayCome b (event_of y))) (sym steps) is.live;
  reached = rows is.reached;
}

-- there are as many runs in the state as in the backfill
pub runs_are : (b : Backfill) → IsReplay b → length b.state.runs ≡ b.runs
runs_are b is = (replay_shaped b is).count

-- ---- a look at the whole

opened_step : (b : Backfill) → IsReplay b → (x : Step) → MayCome b (event_of x) → IsOfRunBelow (next_run b.state) x ⊎ IsOpening x
opened_step b is (Step.Close k) may = inl (open_before b.dag b.runs b.state (replay_shaped b is) k may.0.0)
opened_step b is Step.Open may = inr tt
opened_step b is (Step.Settle x) may = inl (open_before b.dag b.runs b.state (replay_shaped b is) x.run may.0.0.run_is_open)
opened_step b is (Step.Expand x) may = inl (open_before b.dag b.runs b.state (replay_shaped b is) x.run may.0.0.run_is_open)

-- the steps of the opened runs, and then the opening of the next
pub starts : (b : Backfill) → IsReplay b → Ranking (shape_of b.dag).upstreams → (first second new : List Step) →
    HasAdded b (IsOfRunBelow (next_run b.state)) [] first → HasAdded b IsOpening first second → (rows : List Cursors) → rows ≡ [] → (AreNoted b rows → IsPruned b second new) → (room : ℕ) → IsUpToDate b (record { steps = new; room = room; progress = rows })
starts b is ranking first second new runs opening rows no_rows prunes room = record {
  replayed = is;
  ranking = ranking;
  holds = λ x due. cleaned.kept x (elim (opened_step b is x due.1) [
    | inl l ↦ opening.kept x (runs.added x l due)
    | inr o ↦ opening.added x o due
  ]) due.1;
  ranked = λ x c. opening.ranked (runs.ranked (λ y h. absurd (omega (arith, h.1)))) x (cleaned.fewer x c);
  live = cleaned.live;
  reached = none_reached b rows no_rows;
}
  where
    cleaned : IsPruned b second new
    cleaned = prunes (none_reached b rows no_rows)

-- ---- the first step

-- a step that may come is on the agenda
listed : (b : Backfill) (kept : Kept) → IsUpToDate b kept → (f : Event) → IsStep f → MayCome b f → (x : Step) × Contains kept.steps x × (event_of x ≡ f)
listed b kept is (Event.Close k) step may = (Step.Close k, is.holds (Step.Close k) (tt, may), refl)
listed b kept is Event.Open step may = (Step.Open, is.holds Step.Open (tt, may), refl)
listed b kept is (Event.Settle k t) step may =
    let rank : _ = is.ranking.is_rank t (omega (arith, tasks_there b.dag, may.0.0.is_task)) in
    (Step.Settle (record { run = k; rank = is.ranking.rank t; task = t }), is.holds (Step.Settle (record { run = k; rank = is.ranking.rank t; task = t })) (rank, may), refl)
listed b kept is (Event.Expand k t) step may =
    let rank : _ = is.ranking.is_rank t (omega (arith, tasks_there b.dag, may.0.0.is_task)) in
    (Step.Expand (record { run = k; rank = is.ranking.rank t; task = t }), is.holds (Step.Expand (record { run = k; rank = is.ranking.rank t; task = t })) (rank, may), refl)
listed b kept is (Event.Begin n) step may = absurd (omega (arith, step))
listed b kept is (Event.End n o) step may = absurd (omega (arith, step))
listed b kept is (Event.Tick m) step may = absurd (omega (arith, step))

-- turns that hold their tasks' ranks come as their tasks do
earlier : (dag : Dag) (x y : Turn) → IsRank (shape_of dag).upstreams x.task x.rank → IsRank (shape_of dag).upstreams y.task y.rank → TurnComes x y → IsEarlier dag x.run x.task y.run y.task
earlier dag x y rank_x rank_y (inl l) = inl l
earlier dag x y rank_x rank_y (inr h) = inr (
  h.0,
  λ q r is_q is_r.
      let a : q ≡ x.rank = one_rank (shape_of dag).upstreams x.task q x.rank is_q rank_x in
      let b : r ≡ y.rank = one_rank (shape_of dag).upstreams y.task r y.rank is_r rank_y in
      elim h.1 [ inl l ↦ inl (omega (arith, a, b, l)) | inr e ↦ inr (omega (arith, a, b, e.0), e.1) ],
)

comes_before : (dag : Dag) (x y : Step) → IsRanked dag x → IsRanked dag y → Comes x y → ComesBefore dag (event_of x) (event_of y)
comes_before dag (Step.Close j) (Step.Close k) a b c = c
comes_before dag (Step.Close j) Step.Open a b c = c
comes_before dag (Step.Close j) (Step.Settle y) a b c = c
comes_before dag (Step.Close j) (Step.Expand y) a b c = c
comes_before dag Step.Open (Step.Close k) a b c = c
comes_before dag Step.Open Step.Open a b c = c
comes_before dag Step.Open (Step.Settle y) a b c = c
comes_before dag Step.Open (Step.Expand y) a b c = c
comes_before dag (Step.Settle x) (Step.Close k) a b c = c
comes_before dag (Step.Settle x) Step.Open a b c = c
comes_before dag (Step.Settle x) (Step.Settle y) a b c = earlier dag x y a b c
comes_before dag (Step.Settle x) (Step.Expand y) a b c = c
comes_before dag (Step.Expand x) (Step.Close k) a b c = c
comes_before dag (Step.Expand x) Step.Open a b c = c
comes_before dag (Step.Expand x) (Step.Settle y) a b c = c
comes_before dag (Step.Expand x) (Step.Expand y) a b c = earlier dag x y a b c

events_are_steps : (x : Step) → IsStep (event_of x)
events_are_steps (Step.Close k) = omega arith
events_are_steps Step.Open = omega arith
events_are_steps (Step.Settle x) = omega arith
events_are_steps (Step.Expand x) = omega arith

-- where the agenda is empty no step may come
pub none_next : (b : Backfill) (kept : Kept) → IsUpToDate b kept → None ≡ slice_get kept.steps 0 → IsNextStep b None
none_next b kept is e f step may = let x : _ = listed b kept is f step may in no_items kept.steps e x.0 x.1

-- the first step on the agenda is the next
pub first_next : (b : Backfill) (kept : Kept) → IsUpToDate b kept → (x : Step) → Some x ≡ slice_get kept.steps 0 → ((y : Step) → Contains kept.steps y → Comes x y) → IsNextStep b (Some (event_of x))
first_next b kept is x e first = record {
  is_step = events_are_steps x;
  may_come = rw (← e) at is.live;
  first = λ f step may.
      let y : _ = listed b kept is f step may in
      subst (λ (g : Event). ComesBefore b.dag (event_of x) g) y.2 (comes_before b.dag x y.0 (is.ranked x (top_in kept.steps x e)) (is.ranked y.0 y.1) (first y.0 y.1));
}
