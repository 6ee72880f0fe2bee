-- Taking up what waits in a core, task after task and run after run.
use Rattle.std.proofs.Common.{◌≡◌, ◌⊎◌, ℕ, ◌+◌, ◌<◌, ◌≤◌, List, [], ◌∷◌, ◌++◌, length, Contains, slice_get, slice_set, slice_index, slice_index_or, Some, refl, sym, ap, ◌∙◌, subst, subst₂, inl, inr, arith}
use Rattle.bf_core.specs.Cores.{Backfill, IsReplay}
use Rattle.bf_core.proofs.Numbers.{below_or}
use Rattle.bf_waiting.specs.declared.batches.Batch.{Batch}
use Rattle.bf_waiting.specs.declared.delays.Delay.{Delay}
use Rattle.bf_waiting.specs.declared.waiting.Waiting.{Waiting}
use Rattle.bf_waiting.specs.Classes.{HasBatch, Waits, delay_of}
use Rattle.bf_waiting.specs.inner.Filling.{AreFilled, IsLater, KeepsEarlier}
use Rattle.bf_waiting.specs.Keeping.{IsCleaned, IsLive, KeepsWaiting}
use Rattle.bf_waiting.specs.inner.Keeping.{Anywhere, HasDelayed, HasTakenUp}
use Rattle.bf_waiting.specs.Kept.{AreKept}
use Rattle.bf_waiting.specs.Standings.{IsDelayedAt, IsReadyAt}
use Rattle.bf_waiting.proofs.Each.{reclassed, set_cases}
use Rattle.bf_waiting.proofs.Places.{not_beyond}

-- before the next task there are those before this one, and this one
last_task : (j u k t : ℕ) → IsLater j (u + 1) k t → IsLater j u k t ⊎ ((k ≡ j) × (t ≡ u))
last_task j u k t h = elim h [ inl l ↦ inl (inl l) | inr e ↦ elim (below_or t u e.1) [ inl l ↦ inl (inr (e.0, l)) | inr same ↦ inr (e.0, same) ] ]

module _ (b : Backfill) (weights class_of : List ℕ) where
  -- a class takes up a task of its own
  pub fill_more : (j u class : ℕ) (c mid d : Waits) → slice_index class_of u ≡ class → KeepsEarlier b weights class_of j u class c → HasTakenUp b weights j u Anywhere c.batches.items mid.batches.items →
      HasDelayed b j u Anywhere c.delays.items mid.delays.items → IsCleaned b mid.batches.items d.batches.items → d.delays.items ≡ mid.delays.items → KeepsEarlier b weights class_of j (u + 1) class d
  fill_more j u class c mid d own keeps taken delayed clean same = record {
    batches = λ x h. (let y = clean.passed.part x h in
        elim (taken.no_more y.0 y.1) [
          | inl old ↦ (let o = keeps.batches y.0 old in record { weighs = y.2 ∙ (o.weighs ∙ ap (slice_index weights) (sym y.3)); belongs = ap (slice_index class_of) y.3 ∙ o.belongs })
          | inr new ↦ record { weighs = y.2 ∙ (new.0 ∙ ap (slice_index weights) (sym (y.3 ∙ new.1))); belongs = ap (slice_index class_of) (y.3 ∙ new.1) ∙ own }
        ]);
    ready = λ k t i early of r. clean.passed.kept k t i r (elim (last_task j u k t early) [
      | inl before ↦ (let h : HasBatch c.batches.items k t i = keeps.ready k t i before of r in (h.0, taken.kept h.0 h.1, h.2))
      | inr it ↦ subst₂ (λ (a v : ℕ). HasBatch mid.batches.items a v i) (sym it.0) (sym it.1) (taken.ready i tt (subst₂ (λ (a v : ℕ). IsReadyAt b a v i) it.0 it.1 r))
    ]);
    delays = λ x h. elim (delayed.no_more x (subst (λ (ds : List Delay). Contains ds x) same h)) [ inl old ↦ keeps.delays x old | inr new ↦ (ap (slice_index class_of) new.0 ∙ own, new.1) ];
    delayed = λ k t i m early of y. subst (λ (ds : List Delay). Contains ds (delay_of k t i m)) (sym same) (elim (last_task j u k t early) [
      | inl before ↦ delayed.kept (delay_of k t i m) (keeps.delayed k t i m before of y)
      | inr it ↦ subst₂ (λ (a v : ℕ). Contains mid.delays.items (delay_of a v i m)) (sym it.0) (sym it.1) (delayed.delayed i m tt (subst₂ (λ (a v : ℕ). IsDelayedAt b a v i m) it.0 it.1 y))
    ]);
    live = clean.live;
  }

  -- the others are kept as far as before
  fill_else : (j u class : ℕ) (c : Waits) → ¬ (slice_index class_of u ≡ class) → KeepsEarlier b weights class_of j u class c → KeepsEarlier b weights class_of j (u + 1) class c
  fill_else j u class c other keeps = record {
    batches = keeps.batches;
    ready = λ k t i early of r. elim (last_task j u k t early) [ inl before ↦ keeps.ready k t i before of r | inr it ↦ absurd (other (ap (slice_index class_of) (sym it.1) ∙ of)) ];
    delays = keeps.delays;
    delayed = λ k t i m early of y. elim (last_task j u k t early) [ inl before ↦ keeps.delayed k t i m before of y | inr it ↦ absurd (other (ap (slice_index class_of) (sym it.1) ∙ of)) ];
    live = keeps.live;
  }

  -- after the last task the next run begins
  next_run : (j u class : ℕ) (c : Waits) → IsReplay b → length b.dag.tasks ≤ u → KeepsEarlier b weights class_of j u class c → KeepsEarlier b weights class_of (j + 1) 0 class c
  next_run j u class c is end keeps = record {
    batches = keeps.batches;
    ready = λ k t i early of r. keeps.ready k t i (earlier k t early (not_beyond b is k t i r.held r.is_held).1) of r;
    delays = keeps.delays;
    delayed = λ k t i m early of y. keeps.delayed k t i m (earlier k t early (not_beyond b is k t i y.held y.is_held).1) of y;
    live = keeps.live;
  }
    where
      earlier : (k t : ℕ) → IsLater (j + 1) 0 k t → t < length b.dag.tasks → IsLater j u k t
      earlier k t early task = elim early [ inl l ↦ elim (below_or k j l) [ inl less ↦ inl less | inr same ↦ inr (same, omega (arith, task, end)) ] | inr e ↦ absurd (omega (arith, e.1)) ]

  -- after the last run all are kept
  all_runs : (j class : ℕ) (c : Waits) → IsReplay b → length b.state.runs ≤ j → KeepsEarlier b weights class_of j 0 class c → KeepsWaiting b weights class_of class c
  all_runs j class c is end keeps = record {
    holds = record {
      batches = keeps.batches;
      ready = λ k t i of r. keeps.ready k t i (inl (omega (arith, end, (not_beyond b is k t i r.held r.is_held).0))) of r;
      delays = keeps.delays;
      delayed = λ k t i m of y. keeps.delayed k t i m (inl (omega (arith, end, (not_beyond b is k t i y.held y.is_held).0))) of y;
    };
    live = keeps.live;
  }

  -- before the first run a class that is empty is kept
  none_kept : (class : ℕ) (c : Waits) → c.batches.items ≡ [] → c.delays.items ≡ [] → KeepsEarlier b weights class_of 0 0 class c
  none_kept class c no_batch no_delay = record {
    batches = λ x h. absurd (nothing no_batch x h);
    ready = λ k t i early of r. absurd (never k t early);
    delays = λ d h. absurd (nothing no_delay d h);
    delayed = λ k t i m early of y. absurd (never k t early);
    live = subst (λ (xs : List Batch). IsLive b xs) (sym no_batch) tt;
  }
    where
      nothing : {X : Type 0} → {xs : List X} → xs ≡ [] → (x : X) → Contains xs x → ⊥
      nothing e x h = let none : Contains [] x = subst (λ (ys : List _). Contains ys x) e h in omega (arith, none.1)

      never : (k t : ℕ) → IsLater 0 0 k t → ⊥
      never k t early = elim early [ inl l ↦ omega (arith, l) | inr e ↦ omega (arith, e.1) ]

-- ---- all classes

pub filled_one : (b : Backfill) (w v : Waiting) (j u i : ℕ) (old new : Waits) → AreFilled b w j u → i ≡ slice_index w.class_of.items u → slice_get w.classes.items i ≡ Some old → new.task ≡ old.task →
    (KeepsEarlier b w.weights.items w.class_of.items j u i old → KeepsEarlier b w.weights.items w.class_of.items j (u + 1) i new) →
    v.weights.items ≡ w.weights.items → v.class_of.items ≡ w.class_of.items → v.classes.items ≡ slice_set w.classes.items i new → AreFilled b v j (u + 1)
filled_one b w v j u i old new filled is there task fills same_weights same_class_of put = record {
  weighted = rw same_weights filled.weighted;
  one_each = rw same_class_of filled.one_each;
  classed = λ t l. rw (same_class_of, put) (reclassed b.dag b.limits w.classes.items i old new there task (slice_index w.class_of.items t) t (filled.classed t l));
  filled = λ a c h. rw (same_weights, same_class_of) (one a c (rw put at h));
}
  where
    one : (a : ℕ) (c : Waits) → slice_get (slice_set w.classes.items i new) a ≡ Some c → KeepsEarlier b w.weights.items w.class_of.items j (u + 1) a c
    one a c h = elim (set_cases w.classes.items i new a c h) [
      | inl p ↦ subst₂ (λ (n : ℕ) (d : Waits). KeepsEarlier b w.weights.items w.class_of.items j (u + 1) n d) (sym p.0) (sym p.1) (fills (filled.filled i old there))
      | inr q ↦ fill_else b w.weights.items w.class_of.items j u a c (λ e. q.0 (sym e ∙ sym is)) (filled.filled a c q.1)
    ]

pub filled_run : (b : Backfill) (w : Waiting) (j u : ℕ) → IsReplay b → length b.dag.tasks ≤ u → AreFilled b w j u → AreFilled b w (j + 1) 0
filled_run b w j u is end filled = record {
  weighted = filled.weighted;
  one_each = filled.one_each;
  classed = filled.classed;
  filled = λ a c h. next_run b w.weights.items w.class_of.items j u a c is end (filled.filled a c h);
}

pub filled_all : (b : Backfill) (w : Waiting) (j : ℕ) → IsReplay b → length b.state.runs ≤ j → AreFilled b w j 0 → AreKept b w.weights.items w.class_of.items w.classes.items
filled_all b w j is end filled = record {
  replayed = is;
  weighted = filled.weighted;
  one_each = filled.one_each;
  classed = filled.classed;
  kept = λ a c h. all_runs b w.weights.items w.class_of.items j a c is end (filled.filled a c h);
}

-- ---- the classes of the tasks

at_end : (xs : List ℕ) (j d : ℕ) → slice_index_or (xs ++ j ∷ []) (length xs) d ≡ j
at_end [] j d = refl
at_end (x ∷ xs) j d = at_end xs j d
