-- What a class holds of a backfill after an event.
use Rattle.std.proofs.Common.{◌≡◌, ◌⊎◌, ℕ, ℤ, ◌<ℤ◌, Bool, true, false, List, Contains, slice_get, slice_index, Option, None, Some, IfSome, refl, sym, ap, ◌∙◌, subst, subst₂, inl, inr, arith}
use Rattle.std.proofs.lemmas.Int.{ints}
use Rattle.bf_value.specs.declared.name.JobName.{JobName}
use Rattle.bf_xcom.specs.declared.values.Outcome.{Outcome}
use Rattle.bf_core.specs.declared.event.Event.{Event}
use Rattle.bf_core.specs.Clocks.{IsMove}
use Rattle.bf_core.specs.Cores.{Backfill, IsReplay, MayCome, deciding, moved}
use Rattle.bf_core.specs.Events.{place_in}
use Rattle.bf_waiting.specs.declared.batches.Batch.{Batch}
use Rattle.bf_waiting.specs.declared.delays.Delay.{Delay}
use Rattle.bf_waiting.specs.Classes.{HasBatch, Waits, delay_of}
use Rattle.bf_waiting.specs.inner.Classes.{AreReleased, batch_of}
use Rattle.bf_waiting.specs.Keeping.{HoldsWaiting, IsCleaned, IsOfClass, KeepsWaiting}
use Rattle.bf_waiting.specs.inner.Keeping.{Anywhere, At, HasDelayed, HasTakenUp, IsOfPlace, KeepsOver}
use Rattle.bf_waiting.specs.Standings.{IsDelayedAt, IsReadyAt}
use Rattle.bf_waiting.proofs.HeapFacts.{top_in}
use Rattle.bf_waiting.proofs.Moving.{BringsDelayed, BringsReady, IsOfTask, delayed_later, delayed_of, newly_delayed, newly_ready, ready_elsewhere, ready_of, stays_delayed}

module _ (weights class_of : List ℕ) (class : ℕ) where
  -- a class that has taken up what an event brings holds what waits after it
  holds_over : (b : Backfill) → IsReplay b → (e : Event) → MayCome b e → IsMove e → (c d : Waits) → HoldsWaiting b weights class_of class c →
      ((x : Batch) → Contains c.batches.items x → Contains d.batches.items x) →
      ((x : Batch) → Contains d.batches.items x → IsOfClass weights class_of class x) →
      ((k t i : ℕ) → slice_index class_of t ≡ class → BringsReady b e k t i → IsReadyAt (moved b e) k t i → HasBatch d.batches.items k t i) →
      ((x : Delay) → Contains c.delays.items x → Contains d.delays.items x) →
      ((x : Delay) → Contains d.delays.items x → Contains c.delays.items x ⊎ ((slice_index class_of x.task ≡ class) × IsDelayedAt (moved b e) x.run x.task x.place x.moment.0)) →
      ((k t i : ℕ) (m : ℤ) → slice_index class_of t ≡ class → BringsDelayed b.dag e k t i → IsDelayedAt (moved b e) k t i m → Contains d.delays.items (delay_of k t i m)) →
      HoldsWaiting (moved b e) weights class_of class d
  holds_over b is e able move c d holds kept of_class ready kept_delays no_more delayed = record {
    batches = of_class;
    ready = λ k t i own r. elim (newly_ready b is e able k t i r) [ inl old ↦ (let h : HasBatch c.batches.items k t i = holds.ready k t i own old in (h.0, kept h.0 h.1, h.2)) | inr brings ↦ ready k t i own brings r ];
    delays = λ x h. elim (no_more x h) [ inl old ↦ (let o = holds.delays x old in (o.0, stays_delayed b is e able move x.run x.task x.place x.moment.0 o.1)) | inr new ↦ new ];
    delayed = λ k t i m own y. elim (newly_delayed b is e able k t i m y) [ inl old ↦ kept_delays (delay_of k t i m) (holds.delayed k t i m own old) | inr brings ↦ delayed k t i m own brings y ];
  }

  -- once its batches are clean, it is kept
  cleaned : (b : Backfill) (c d : Waits) → HoldsWaiting b weights class_of class c → IsCleaned b c.batches.items d.batches.items → d.delays.items ≡ c.delays.items → KeepsWaiting b weights class_of class d
  cleaned b c d holds clean same = record {
    holds = record {
      batches = λ x h. (let y = clean.passed.part x h in let o = holds.batches y.0 y.1 in record { weighs = y.2 ∙ (o.weighs ∙ ap (slice_index weights) (sym y.3)); belongs = ap (slice_index class_of) y.3 ∙ o.belongs });
      ready = λ k t i own r. clean.passed.kept k t i r (holds.ready k t i own r);
      delays = λ x h. holds.delays x (subst (λ (ds : List Delay). Contains ds x) same h);
      delayed = λ k t i m own y. subst (λ (ds : List Delay). Contains ds (delay_of k t i m)) (sym same) (holds.delayed k t i m own y);
    };
    live = clean.live;
  }

  -- an event of other tasks leaves it as it is
  pub untouched : (b : Backfill) → IsReplay b → (e : Event) → MayCome b e → IsMove e → ((t : ℕ) → slice_index class_of t ≡ class → ¬ (IsOfTask e t)) → (c : Waits) → KeepsWaiting b weights class_of class c → KeepsWaiting (moved b e) weights class_of class c
  untouched b is e able move other c keeps = record {
    holds = holds_over b is e able move c c keeps.holds (λ x h. h) keeps.holds.batches
        (λ k t i own brings r. absurd (other t own (ready_of b e move k t i brings)))
        (λ x h. h) (λ x h. inl h)
        (λ k t i m own brings y. absurd (other t own (delayed_of b.dag e k t i brings)));
    live = go (slice_get c.batches.items 0) refl keeps.live;
  }
    where
      go : (o : Option Batch) → slice_get c.batches.items 0 ≡ o → IfSome o (λ x. IsReadyAt b x.run.0 x.task.0 x.first.0) → IfSome o (λ x. IsReadyAt (moved b e) x.run.0 x.task.0 x.first.0)
      go None same h = tt
      go (Some x) same h = ready_elsewhere b e move x.run.0 x.task.0 x.first.0 (other x.task.0 (keeps.holds.batches x (top_in c.batches.items x (sym same))).belongs) h

  -- a try of it begins
  pub begun : (b : Backfill) → IsReplay b → (n : JobName) → MayCome b (Event.Begin n) → (c d : Waits) → KeepsWaiting b weights class_of class c →
      IsCleaned (moved b (Event.Begin n)) c.batches.items d.batches.items → d.delays.items ≡ c.delays.items → KeepsWaiting (moved b (Event.Begin n)) weights class_of class d
  begun b is n able c d keeps clean same =
      cleaned (moved b (Event.Begin n)) c d
      (holds_over b is (Event.Begin n) able tt c c keeps.holds (λ x h. h) keeps.holds.batches (λ k t i own brings r. absurd brings) (λ x h. h) (λ x h. inl h) (λ k t i m own brings y. absurd brings))
      clean same

  -- batches that were taken up are of the class
  is_of_class : (b now : Backfill) (c d : Waits) → HoldsWaiting b weights class_of class c → (k t : ℕ) → slice_index class_of t ≡ class → (These : ℕ → Type 0) → HasTakenUp now weights k t These c.batches.items d.batches.items →
      (x : Batch) → Contains d.batches.items x → IsOfClass weights class_of class x
  is_of_class b now c d holds k t own These taken x h = elim (taken.no_more x h) [
    | inl old ↦ holds.batches x old
    | inr new ↦ record { weighs = new.0 ∙ ap (slice_index weights) (sym new.1); belongs = ap (slice_index class_of) new.1 ∙ own }
  ]

  ready_there : (now : Backfill) (items : List Batch) (j u : ℕ) → (k t i : ℕ) → k ≡ j → t ≡ u → (IsReadyAt now j u i → HasBatch items j u i) → IsReadyAt now k t i → HasBatch items k t i
  ready_there now items j u k t i e f has r = subst₂ (λ (a v : ℕ). HasBatch items a v i) (sym e) (sym f) (has (subst₂ (λ (a v : ℕ). IsReadyAt now a v i) e f r))

  -- one of its tasks is decided
  pub admitted : (b : Backfill) → IsReplay b → (expands : Bool) (j u : ℕ) → MayCome b (deciding expands j u) → slice_index class_of u ≡ class → (c mid d : Waits) → KeepsWaiting b weights class_of class c →
      HasTakenUp (moved b (deciding expands j u)) weights j u Anywhere c.batches.items mid.batches.items → mid.delays.items ≡ c.delays.items →
      IsCleaned (moved b (deciding expands j u)) mid.batches.items d.batches.items → d.delays.items ≡ mid.delays.items → KeepsWaiting (moved b (deciding expands j u)) weights class_of class d
  admitted b is true j u able own c mid d keeps taken same clean same_again =
      cleaned (moved b (Event.Expand j u)) mid d
      (holds_over b is (Event.Expand j u) able tt c mid keeps.holds taken.kept (is_of_class b (moved b (Event.Expand j u)) c mid keeps.holds j u own Anywhere taken)
      (λ k t i of brings r. ready_there (moved b (Event.Expand j u)) mid.batches.items j u k t i brings.0 brings.1 (taken.ready i tt) r)
      (λ x h. subst (λ (ds : List Delay). Contains ds x) (sym same) h) (λ x h. inl (subst (λ (ds : List Delay). Contains ds x) same h)) (λ k t i m of brings y. absurd brings))
      clean same_again
  admitted b is false j u able own c mid d keeps taken same clean same_again =
      cleaned (moved b (Event.Settle j u)) mid d
      (holds_over b is (Event.Settle j u) able tt c mid keeps.holds taken.kept (is_of_class b (moved b (Event.Settle j u)) c mid keeps.holds j u own Anywhere taken)
      (λ k t i of brings r. ready_there (moved b (Event.Settle j u)) mid.batches.items j u k t i brings.0 brings.1 (taken.ready i tt) r)
      (λ x h. subst (λ (ds : List Delay). Contains ds x) (sym same) h) (λ x h. inl (subst (λ (ds : List Delay). Contains ds x) same h)) (λ k t i m of brings y. absurd brings))
      clean same_again

  -- a try of it ends
  pub readmitted : (b : Backfill) → IsReplay b → (n : JobName) (o : Outcome) → MayCome b (Event.End n o) → slice_index class_of n.task ≡ class → (c mid d : Waits) → KeepsWaiting b weights class_of class c →
      HasTakenUp (moved b (Event.End n o)) weights n.run n.task (At (place_in b.dag n)) c.batches.items mid.batches.items →
      HasDelayed (moved b (Event.End n o)) n.run n.task (At (place_in b.dag n)) c.delays.items mid.delays.items →
      IsCleaned (moved b (Event.End n o)) mid.batches.items d.batches.items → d.delays.items ≡ mid.delays.items → KeepsWaiting (moved b (Event.End n o)) weights class_of class d
  readmitted b is n o able own c mid d keeps taken delayed clean same =
      cleaned (moved b (Event.End n o)) mid d
      (holds_over b is (Event.End n o) able tt c mid keeps.holds taken.kept (is_of_class b (moved b (Event.End n o)) c mid keeps.holds n.run n.task own (At (place_in b.dag n)) taken)
      (λ k t i of brings r. ready_there (moved b (Event.End n o)) mid.batches.items n.run n.task k t i brings.0 brings.1 (taken.ready i brings.2) r)
      delayed.kept
      (λ x h. elim (delayed.no_more x h) [ inl old ↦ inl old | inr new ↦ inr (ap (slice_index class_of) new.0 ∙ own, new.1) ])
      (λ k t i m of brings y. subst₂ (λ (a v : ℕ). Contains mid.delays.items (delay_of a v i m)) (sym brings.0) (sym brings.1)
      (delayed.delayed i m brings.2 (subst₂ (λ (a v : ℕ). IsDelayedAt (moved b (Event.End n o)) a v i m) brings.0 brings.1 y))))
      clean same

  -- the clock moves
  pub released : (b : Backfill) → IsReplay b → (o : ℤ) → MayCome b (Event.Tick o) → (c mid d : Waits) → KeepsWaiting b weights class_of class c →
      AreReleased o weights c.batches.items c.delays.items mid.batches.items mid.delays.items → ((x : Delay) → Contains mid.delays.items x → o <ℤ x.moment.0) →
      IsCleaned (moved b (Event.Tick o)) mid.batches.items d.batches.items → d.delays.items ≡ mid.delays.items → KeepsWaiting (moved b (Event.Tick o)) weights class_of class d
  released b is o able c mid d keeps out later clean same =
      cleaned (moved b (Event.Tick o)) mid d
      (record {
        batches = λ x h. elim (out.no_more x h) [
          | inl old ↦ keeps.holds.batches x old
          | inr new ↦ record { weighs = rw new.2; belongs = ap (λ (y : Batch). slice_index class_of y.task.0) new.2 ∙ (keeps.holds.delays new.0 new.1).0 }
        ];
        ready = λ k t i own r. elim (newly_ready b is (Event.Tick o) able k t i r) [
          | inl old ↦ (let h : HasBatch c.batches.items k t i = keeps.holds.ready k t i own old in (h.0, out.kept h.0 h.1, h.2))
          | inr brings ↦ elim (out.either (delay_of k t i brings.0) (keeps.holds.delayed k t i brings.0 own brings.1)) [
            | inl still ↦ absurd (let l = later (delay_of k t i brings.0) still in omega (arith, ints, l, brings.2))
            | inr come ↦ (batch_of weights k t i, come.1, record { run = refl; task = refl; from = omega arith; to = omega arith })
          ]
        ];
        delays = λ x h. (let old = keeps.holds.delays x (out.fewer x h) in (old.0, delayed_later b o x.run x.task x.place x.moment.0 (later x h) old.1));
        delayed = λ k t i m own y. elim (newly_delayed b is (Event.Tick o) able k t i m y) [
          | inl old ↦ elim (out.either (delay_of k t i m) (keeps.holds.delayed k t i m own old)) [ inl still ↦ still | inr come ↦ absurd (let l : o <ℤ m = y.is_later in omega (arith, ints, l, come.0)) ]
          | inr brings ↦ absurd brings
        ];
      })
      clean same

-- ---- over an event, by what was done

module _ (now : Backfill) (weights class_of : List ℕ) (class : ℕ) (c mid d : Waits) where
  pub admitted_over : (expands : Bool) (j u : ℕ) → slice_index class_of u ≡ class → HasTakenUp now weights j u Anywhere c.batches.items mid.batches.items → mid.delays.items ≡ c.delays.items →
      IsCleaned now mid.batches.items d.batches.items → d.delays.items ≡ mid.delays.items → KeepsOver (deciding expands j u) now weights class_of class c d
  admitted_over expands j u own taken same clean same_again = λ b able at is keeps.
      subst (λ (n : Backfill). KeepsWaiting n weights class_of class d) (sym at)
      (admitted weights class_of class b is expands j u able own c mid d keeps
      (subst (λ (n : Backfill). HasTakenUp n weights j u Anywhere c.batches.items mid.batches.items) at taken) same
      (subst (λ (n : Backfill). IsCleaned n mid.batches.items d.batches.items) at clean) same_again)

  pub readmitted_over : (n : JobName) (o : Outcome) (k t i : ℕ) → IsOfPlace now.dag n k t i → slice_index class_of t ≡ class → HasTakenUp now weights k t (At i) c.batches.items mid.batches.items →
      HasDelayed now k t (At i) c.delays.items mid.delays.items → IsCleaned now mid.batches.items d.batches.items → d.delays.items ≡ mid.delays.items → KeepsOver (Event.End n o) now weights class_of class c d
  readmitted_over n o k t i of own taken delayed clean same = λ b able at is keeps.
      (let place : i ≡ place_in b.dag n = sym of.2 ∙ ap (λ (m : Backfill). place_in m.dag n) at in
      subst (λ (m : Backfill). KeepsWaiting m weights class_of class d) (sym at)
      (readmitted weights class_of class b is n o able (ap (slice_index class_of) of.1 ∙ own) c mid d keeps
      (taken_up b at place) (delayed_too b at place)
      (subst (λ (m : Backfill). IsCleaned m mid.batches.items d.batches.items) at clean) same))
    where
      taken_up : (b : Backfill) → now ≡ moved b (Event.End n o) → i ≡ place_in b.dag n → HasTakenUp (moved b (Event.End n o)) weights n.run n.task (At (place_in b.dag n)) c.batches.items mid.batches.items
      taken_up b at place = subst (λ (p : ℕ). HasTakenUp (moved b (Event.End n o)) weights n.run n.task (At p) c.batches.items mid.batches.items) place
          (subst₂ (λ (a v : ℕ). HasTakenUp (moved b (Event.End n o)) weights a v (At i) c.batches.items mid.batches.items) (sym of.0) (sym of.1)
          (subst (λ (m : Backfill). HasTakenUp m weights k t (At i) c.batches.items mid.batches.items) at taken))

      delayed_too : (b : Backfill) → now ≡ moved b (Event.End n o) → i ≡ place_in b.dag n → HasDelayed (moved b (Event.End n o)) n.run n.task (At (place_in b.dag n)) c.delays.items mid.delays.items
      delayed_too b at place = subst (λ (p : ℕ). HasDelayed (moved b (Event.End n o)) n.run n.task (At p) c.delays.items mid.delays.items) place
          (subst₂ (λ (a v : ℕ). HasDelayed (moved b (Event.End n o)) a v (At i) c.delays.items mid.delays.items) (sym of.0) (sym of.1)
          (subst (λ (m : Backfill). HasDelayed m k t (At i) c.delays.items mid.delays.items) at delayed))

  pub released_over : (o : ℤ) → AreReleased o weights c.batches.items c.delays.items mid.batches.items mid.delays.items → ((x : Delay) → Contains mid.delays.items x → o <ℤ x.moment.0) →
      IsCleaned now mid.batches.items d.batches.items → d.delays.items ≡ mid.delays.items → KeepsOver (Event.Tick o) now weights class_of class c d
  released_over o out later clean same = λ b able at is keeps.
      subst (λ (n : Backfill). KeepsWaiting n weights class_of class d) (sym at)
      (released weights class_of class b is o able c mid d keeps out later (subst (λ (n : Backfill). IsCleaned n mid.batches.items d.batches.items) at clean) same)

pub begun_over : (now : Backfill) (weights class_of : List ℕ) (class : ℕ) (c d : Waits) (n : JobName) → IsCleaned now c.batches.items d.batches.items → d.delays.items ≡ c.delays.items → KeepsOver (Event.Begin n) now weights class_of class c d
begun_over now weights class_of class c d n clean same = λ b able at is keeps.
    subst (λ (m : Backfill). KeepsWaiting m weights class_of class d) (sym at)
    (begun weights class_of class b is n able c d keeps (subst (λ (m : Backfill). IsCleaned m c.batches.items d.batches.items) at clean) same)
