-- A task that waits for its upstreams alone may be settled once they are.
use Rattle.std.proofs.Common.{◌≡◌, ◌≢◌, ℕ, zero, suc, ◌<◌, Bool, true, false, ◌&&◌, ◌||◌, List, [], ◌∷◌, length, get_or, Option, is_some, refl, sym, ap, ◌∙◌, arith}
use Rattle.std.specs.List.{AllByRecursion}
use Rattle.bf_core.specs.Terms.{Dag, task_of, TaskValue, Verdict}
use Rattle.bf_core.specs.declared.decision.Decision.{Decision}
use Rattle.bf_core.specs.declared.event.Event.{Event}
use Rattle.bf_core.specs.declared.state.Cell.{Cell}
use Rattle.bf_core.specs.declared.state.RunPhase.{RunPhase}
use Rattle.bf_core.specs.Deciding.{Seen, after_verdict, decision, past_after, task_verdict_of, upstream_verdict_of}
use Rattle.bf_core.specs.Events.{cell_at, phase_of, value_in, seen_in, before_in, decision_in, next_run}
use Rattle.bf_core.specs.Cores.{Backfill, IsReplay, IsThere, MayCome}
use Rattle.bf_core.proofs.Kept.{replay_shaped}
use Rattle.bf_core.proofs.Shape.{before_next}
use Rattle.bf_core.proofs.Stuck.{proper_cell}
use Rattle.bf_core.proofs.Taken.{decision_taken}
use Rattle.bf_due.specs.Cursors.{ArePassed, has_early_rule_in}
use Rattle.bf_due.specs.inner.Dues.{WaitsForUpstreamsAlone}
use Rattle.bf_due.proofs.Adding.{unexpanded}

all_at : (P : ℕ → Type 0) (us : List ℕ) → ((i : ℕ) → i < length us → P (get_or us i 0)) → AllByRecursion P us
all_at P [] h = tt
all_at P (u ∷ us) h = (h 0 (omega arith), all_at P us (λ i l. h (suc i) (omega (arith, l))))

without_past : (k : ℕ) (before : Option TaskValue) (v : Verdict) → past_after false k before v ≡ v
without_past k before Verdict.Run = refl
without_past k before Verdict.Wait = refl
without_past k before Verdict.Skip = refl
without_past k before Verdict.UpstreamFailed = refl
without_past k before Verdict.Blocked = refl

-- a task that doesn't depend on its past is decided as in the first run
as_first : (dag : Dag) (seen : ℕ → Seen) (k : ℕ) (before : Option TaskValue) (t : ℕ) → (task_of dag t).depends_on_past ≡ false → decision dag k seen before t ≡ decision dag 0 seen before t
unfolding decision task_verdict_of
as_first dag seen k before t alone = ap (after_verdict dag seen t) (free k ∙ sym (free 0))
  where
    free : (j : ℕ) → past_after (task_of dag t).depends_on_past j before (upstream_verdict_of dag seen t) ≡ upstream_verdict_of dag seen t
    free j = rw alone (without_past j before (upstream_verdict_of dag seen t))

lets_settled : (settled early : Bool) (free : Bool) → early ≡ false → (settled || (early && free)) ≡ true → settled ≡ true
lets_settled true early free e h = refl
lets_settled false true free e h = cc
lets_settled false false free e h = h

not_open : (p : RunPhase) → p ≢ RunPhase.Unopened → p ≢ RunPhase.Closed → p ≡ RunPhase.Open
not_open RunPhase.Unopened a b = absurd (a refl)
not_open RunPhase.Open a b = refl
not_open RunPhase.Closed a b = absurd (b refl)

-- an undecided task's run is open, once it was opened
still_open : (b : Backfill) → IsReplay b → (k t : ℕ) → k < next_run b.state → t < length b.dag.tasks → cell_at b.state k t ≡ Cell.Undecided → phase_of b.state k ≡ RunPhase.Open
still_open b is k t opened there undecided =
    not_open (phase_of b.state k) (before_next b.state k opened) (λ closed.
    let settled : is_some (value_in (cell_at b.state k t)) ≡ true = (replay_shaped b is).closed k closed t there in
    let unsettled : is_some (value_in (cell_at b.state k t)) ≡ false = ap (λ c. is_some (value_in c)) undecided in
    let f : true ≡ false = sym settled ∙ unsettled in cc)

pub settles_now : (b : Backfill) → IsReplay b → (k t : ℕ) → k < next_run b.state → IsThere b.dag b.state k t → cell_at b.state k t ≡ Cell.Undecided → WaitsForUpstreamsAlone b.dag t →
    ArePassed (has_early_rule_in b.dag t) b.dag b.state k t (length (task_of b.dag t).upstreams) → MayCome b (Event.Settle k t)
unfolding decision_in
settles_now b is k t opened there undecided waits passed = (
  (
    record {
      run_is_open = still_open b is k t opened there.1 undecided;
      is_task = there.1;
      undecided = undecided;
      decides = λ e. taken (sym (as_first b.dag (λ u. seen_in (cell_at b.state k u)) k (before_in b.state k t) t waits.alone) ∙ e);
    },
    unexpanded b.dag b.state k t waits.single,
  ),
  tt,
)
  where
    settled : (i : ℕ) → i < length (task_of b.dag t).upstreams → is_some (value_in (cell_at b.state k (get_or (task_of b.dag t).upstreams i 0))) ≡ true
    settled i l = lets_settled _ (has_early_rule_in b.dag t) _ waits.patient (passed i l l)

    taken : decision b.dag 0 (λ u. seen_in (cell_at b.state k u)) (before_in b.state k t) t ≢ Decision.Wait
    taken = decision_taken b.dag is.sound 0 (λ u. seen_in (cell_at b.state k u)) (before_in b.state k t) t (λ u e. proper_cell (cell_at b.state k u) e)
        (all_at (λ u. is_some (value_in (cell_at b.state k u)) ≡ true) (task_of b.dag t).upstreams settled) (λ n. absurd (n refl))
