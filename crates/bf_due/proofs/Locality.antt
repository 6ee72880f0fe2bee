-- What an event changes of what may be decided: nothing but at its own task, at those that look at it, and at the tasks
-- of a run that it opens or closes.
use Rattle.std.proofs.Common.{◌≡◌, ◌≢◌, ℕ, suc, zero, ◌⊎◌, ◌&&◌, Bool, true, false, List, [], ◌∷◌, slice_get, Option, None, Some, is_some, option_map, refl, sym, ap, ap₂, ◌∙◌, arith, inl, inr, subst}
use Rattle.std.specs.List.{list_all}
use Rattle.std.proofs.lemmas.Bool.{and_parts}
use Rattle.bf_core.specs.Terms.{Dag, Limits, task_of, Verdict, TaskValue, Xval, items, IsOneOf, IsSound, add}
use Rattle.bf_core.specs.declared.state.State.{State}
use Rattle.bf_core.specs.declared.state.Cell.{Cell}
use Rattle.bf_core.specs.declared.state.Instance.{Instance}
use Rattle.bf_core.specs.declared.state.Phase.{Phase}
use Rattle.bf_core.specs.declared.state.RunPhase.{RunPhase}
use Rattle.bf_core.specs.declared.event.Event.{Event}
use Rattle.bf_core.specs.declared.decision.Decision.{Decision}
use Rattle.bf_core.specs.Deciding.{Seen, lets_decide_in, upstream_verdict_of, task_verdict_of, pulled, instances_of, mapped, after_verdict, decision}
use Rattle.bf_core.specs.Events.{cell_at, phase_of, results, cons_result, counts_of_instance, counts_of_instances, seen_in, before_in, decision_in, goes_on_in, is_run, instance_of, change_at, change_instance, begun, place_in, next_run, put, after, IsDecidable, IsEnabled}
use Rattle.bf_core.proofs.Depth.{ruling_cong}
use Rattle.bf_core.proofs.Reading.{put_cases, with_phase_cell}
use Rattle.bf_core.proofs.Instances.{IsUnfinished, not_yet}
use Rattle.bf_core.proofs.Decided.{lets}
use Rattle.bf_core.proofs.Taken.{mapped_not}
use Rattle.bf_core.proofs.Shape.{put_phase, phase_cases}

-- ---- what a decision looks at

gate_alike : (dag : Dag) (k : ℕ) (a b : ℕ → Seen) (p q : Option TaskValue) (t : ℕ) → upstream_verdict_of dag a t ≡ upstream_verdict_of dag b t → p ≡ q → task_verdict_of dag k a p t ≡ task_verdict_of dag k b q t
unfolding task_verdict_of
gate_alike dag k a b p q t h e = rw (e, h)

-- what comes of a task that goes on, by its source's value
from : (dag : Dag) → List (Option Xval) → ℕ → Option TaskValue → Decision
from dag pulls source None = Decision.Wait
from dag pulls source (Some v) = mapped pulls (items (task_of dag source) v)

from_alike : (dag : Dag) (pa pb : List (Option Xval)) (source : ℕ) (x y : Option TaskValue) → x ≡ y → from dag pa source x ≢ Decision.Wait → from dag pb source y ≢ Decision.Wait
unfolding from
from_alike dag pa pb source x None e n = absurd (n (rw e))
from_alike dag pa pb source x (Some v) e n = mapped_not pb _

-- whether it waits does not rest on what it pulls
waits_alike : (dag : Dag) (a b : ℕ → Seen) (t : ℕ) (v : Verdict) → ((s : ℕ) → (task_of dag t).expand ≡ Some s → a s ≡ b s) → after_verdict dag a t v ≢ Decision.Wait → after_verdict dag b t v ≢ Decision.Wait
unfolding from
waits_alike dag a b t Verdict.Wait same n = n
waits_alike dag a b t Verdict.Blocked same n = λ e. cc
waits_alike dag a b t Verdict.Skip same n = λ e. cc
waits_alike dag a b t Verdict.UpstreamFailed same n = λ e. cc
waits_alike dag a b t Verdict.Run same n = go (task_of dag t).expand same n
  where
    go : (x : Option ℕ) → ((s : ℕ) → x ≡ Some s → a s ≡ b s) → instances_of dag a (pulled dag a t) x ≢ Decision.Wait → instances_of dag b (pulled dag b t) x ≢ Decision.Wait
    go None same n = λ e. cc
    go (Some s) same n = from_alike dag (pulled dag a t) (pulled dag b t) s (a s).value (b s).value (ap (λ (x : Seen). x.value) (same s refl)) n

-- a decision that does not wait doesn't, wherever the ruling is the same, and the same is known of the source and of the past
pub decision_alike : (dag : Dag) (k : ℕ) (a b : ℕ → Seen) (p q : Option TaskValue) (t : ℕ) → upstream_verdict_of dag a t ≡ upstream_verdict_of dag b t → ((s : ℕ) → (task_of dag t).expand ≡ Some s → a s ≡ b s) → p ≡ q →
    decision dag k a p t ≢ Decision.Wait → decision dag k b q t ≢ Decision.Wait
unfolding decision
decision_alike dag k a b p q t h source e n =
    subst (λ (v : Verdict). after_verdict dag b t v ≢ Decision.Wait) (gate_alike dag k a b p q t h e)
    (waits_alike dag a b t (task_verdict_of dag k a p t) source n)

-- the ruling on the task t in the run k is the same in both states, and so is what is seen of its source
pub record RulesAlike (dag : Dag) (r s : State) (k t : ℕ) : Type 0 where
  pub upstream_verdict_of : upstream_verdict_of dag (λ u. seen_in (cell_at r k u)) t ≡ upstream_verdict_of dag (λ u. seen_in (cell_at s k u)) t
  pub source : (u : ℕ) → (task_of dag t).expand ≡ Some u → seen_in (cell_at r k u) ≡ seen_in (cell_at s k u)

-- what is looked at when the task is decided comes to the same in both states
pub record LooksAlike (dag : Dag) (r s : State) (k t : ℕ) : Type 0 where
  pub phase : phase_of r k ≡ phase_of s k
  pub cell : cell_at r k t ≡ Cell.Undecided → cell_at s k t ≡ Cell.Undecided
  pub rules : RulesAlike dag r s k t
  pub past : before_in r k t ≡ before_in s k t

pub decidable_alike : (dag : Dag) (r s : State) (k t : ℕ) → LooksAlike dag r s k t → IsDecidable dag r k t → IsDecidable dag s k t
unfolding decision_in
decidable_alike dag r s k t alike able = record {
  run_is_open = sym alike.phase ∙ able.run_is_open;
  is_task = able.is_task;
  undecided = alike.cell able.undecided;
  decides = decision_alike dag k (λ u. seen_in (cell_at r k u)) (λ u. seen_in (cell_at s k u)) (before_in r k t) (before_in s k t) t alike.rules.upstream_verdict_of alike.rules.source alike.past able.decides;
}

-- where it does, the task goes on to its expansion or doesn't as before
pub goes_on_alike : (dag : Dag) (r s : State) (k t : ℕ) → LooksAlike dag r s k t → goes_on_in dag r k t ≡ goes_on_in dag s k t
unfolding goes_on_in
goes_on_alike dag r s k t alike =
    ap (λ v. is_some (task_of dag t).expand && is_run v) (gate_alike dag k (λ u. seen_in (cell_at r k u)) (λ u. seen_in (cell_at s k u)) (before_in r k t) (before_in s k t) t alike.rules.upstream_verdict_of alike.past)

-- ---- what an event changes

-- the event settles something of the task u in the run j, or may do so
abbrev pub Touches : Event → ℕ → ℕ → Type 0
Touches (Event.Settle k t) j u = (j ≡ k) × (u ≡ t)
Touches (Event.Expand k t) j u = (j ≡ k) × (u ≡ t)
Touches (Event.End n o) j u = (j ≡ n.run) × (u ≡ n.task)
Touches _ j u = ⊥

-- the event opens or closes the run j
abbrev pub Turns : State → Event → ℕ → Type 0
Turns s Event.Open j = j ≡ next_run s
Turns s (Event.Close k) j = j ≡ k
Turns s _ j = ⊥

-- a change of an instance that is unfinished before and after is not seen
unseen_counts : (p q : Phase) → IsUnfinished p → IsUnfinished q → counts_of_instance q ≡ counts_of_instance p
unseen_counts Phase.Waiting Phase.Waiting a b = refl
unseen_counts Phase.Waiting Phase.Running a b = refl
unseen_counts Phase.Running Phase.Waiting a b = refl
unseen_counts Phase.Running Phase.Running a b = refl
unseen_counts (Phase.Finished o) q a b = absurd a
unseen_counts p (Phase.Finished o) a b = absurd b

counts_unseen : (f : Instance → Instance) (xs : List Instance) (i : ℕ) (x : Instance) → slice_get xs i ≡ Some x → IsUnfinished x.phase → IsUnfinished (f x).phase → counts_of_instances (change_at f xs i) ≡ counts_of_instances xs
counts_unseen f [] i x e a b = cc
counts_unseen f (y ∷ ys) zero x e a b = let same : x ≡ y = cc in ap (λ c. add c (counts_of_instances ys)) (unseen_counts y.phase (f y).phase (rw (← same) a) (rw (← same) b))
counts_unseen f (y ∷ ys) (suc i) x e a b = ap (add (counts_of_instance y.phase)) (counts_unseen f ys i x e a b)

results_unseen : (f : Instance → Instance) (xs : List Instance) (i : ℕ) (x : Instance) → slice_get xs i ≡ Some x → IsUnfinished x.phase → IsUnfinished (f x).phase → results (change_at f xs i) ≡ results xs
results_unseen f [] i x e a b = cc
results_unseen f (y ∷ ys) zero x e a b = let same : x ≡ y = cc in not_yet (f y).attempt (f y).phase (results ys) (rw (← same) b) ∙ sym (not_yet y.attempt y.phase (results ys) (rw (← same) a))
results_unseen f (y ∷ ys) (suc i) x e a b = ap (cons_result y.attempt y.phase) (results_unseen f ys i x e a b)

pub change_unseen : (f : Instance → Instance) (c : Cell) (i : ℕ) (x : Instance) → instance_of c i ≡ Some x → IsUnfinished x.phase → IsUnfinished (f x).phase → seen_in (change_instance f c i) ≡ seen_in c
change_unseen f (Cell.Ran xs) i x e a b = λ j. record { counts = counts_unseen f xs i x e a b j; value = option_map TaskValue.Ran (results_unseen f xs i x e a b j) }
change_unseen f Cell.Undecided i x e a b = refl
change_unseen f Cell.Blocked i x e a b = refl
change_unseen f Cell.Skipped i x e a b = refl
change_unseen f Cell.UpstreamFailed i x e a b = refl

put_seen : (s : State) (k t : ℕ) (c : Cell) (j u : ℕ) → seen_in c ≡ seen_in (cell_at s k t) → seen_in (cell_at (put s k t c) j u) ≡ seen_in (cell_at s j u)
put_seen s k t c j u same = elim (put_cases s k t c j u) [ inl p ↦ ap seen_in p.2 ∙ (same ∙ ap₂ (λ x y. seen_in (cell_at s x y)) (sym p.0) (sym p.1)) | inr e ↦ ap seen_in e ]

put_elsewhere : (s : State) (k t : ℕ) (c : Cell) (j u : ℕ) → ((j ≡ k) × (u ≡ t) → ⊥) → seen_in (cell_at (put s k t c) j u) ≡ seen_in (cell_at s j u)
put_elsewhere s k t c j u n = elim (put_cases s k t c j u) [ inl p ↦ absurd (n (p.0, p.1)) | inr e ↦ ap seen_in e ]

-- what is known of a task stays the same but where the event touches it
pub seen_kept : (dag : Dag) (limits : Limits) (s : State) (e : Event) → IsEnabled dag limits s e → (j u : ℕ) → (Touches e j u → ⊥) → seen_in (cell_at (after dag s e) j u) ≡ seen_in (cell_at s j u)
unfolding after
seen_kept dag limits s Event.Open able j u n = ap seen_in (with_phase_cell s (next_run s) RunPhase.Open j u)
seen_kept dag limits s (Event.Settle k t) able j u n = put_elsewhere s k t _ j u n
seen_kept dag limits s (Event.Expand k t) able j u n = put_elsewhere s k t _ j u n
seen_kept dag limits s (Event.Begin m) able j u n = put_seen s m.run m.task _ j u (change_unseen begun _ (place_in dag m) able.0.held able.0.is_held (rw able.0.in_phase tt) tt)
seen_kept dag limits s (Event.End m o) able j u n = put_elsewhere s m.run m.task _ j u n
seen_kept dag limits s (Event.Close k) able j u n = ap seen_in (with_phase_cell s k RunPhase.Closed j u)
seen_kept dag limits s (Event.Tick m) able j u n = refl

-- a run's phase stays but where the event opens or closes it
pub phase_kept : (dag : Dag) (s : State) (e : Event) (j : ℕ) → (Turns s e j → ⊥) → phase_of (after dag s e) j ≡ phase_of s j
unfolding after
phase_kept dag s Event.Open j n = elim (phase_cases s (next_run s) RunPhase.Open j) [ inl p ↦ absurd (n p.0) | inr e ↦ e ]
phase_kept dag s (Event.Settle k t) j n = put_phase s k t _ j
phase_kept dag s (Event.Expand k t) j n = put_phase s k t _ j
phase_kept dag s (Event.Begin m) j n = put_phase s m.run m.task _ j
phase_kept dag s (Event.End m o) j n = put_phase s m.run m.task _ j
phase_kept dag s (Event.Close k) j n = elim (phase_cases s k RunPhase.Closed j) [ inl p ↦ absurd (n p.0) | inr e ↦ e ]
phase_kept dag s (Event.Tick m) j n = refl

changed_undecided : (f : Instance → Instance) (c : Cell) (i : ℕ) → change_instance f c i ≡ Cell.Undecided → c ≡ Cell.Undecided
changed_undecided f (Cell.Ran xs) i e = cc
changed_undecided f Cell.Undecided i e = refl
changed_undecided f Cell.Blocked i e = cc
changed_undecided f Cell.Skipped i e = cc
changed_undecided f Cell.UpstreamFailed i e = cc

put_undecided : (s : State) (k t : ℕ) (c : Cell) (j u : ℕ) → (c ≡ Cell.Undecided → cell_at s k t ≡ Cell.Undecided) → cell_at (put s k t c) j u ≡ Cell.Undecided → cell_at s j u ≡ Cell.Undecided
put_undecided s k t c j u back h = elim (put_cases s k t c j u) [ inl p ↦ rw (p.0, p.1) (back (sym p.2 ∙ h)) | inr e ↦ sym e ∙ h ]

-- what is decided stays decided
pub undecided_back : (dag : Dag) (limits : Limits) (s : State) (e : Event) → IsEnabled dag limits s e → (j u : ℕ) → cell_at (after dag s e) j u ≡ Cell.Undecided → cell_at s j u ≡ Cell.Undecided
unfolding after
undecided_back dag limits s Event.Open able j u h = sym (with_phase_cell s (next_run s) RunPhase.Open j u) ∙ h
undecided_back dag limits s (Event.Settle k t) able j u h = put_undecided s k t _ j u (λ x. able.0.undecided) h
undecided_back dag limits s (Event.Expand k t) able j u h = put_undecided s k t _ j u (λ x. able.0.undecided) h
undecided_back dag limits s (Event.Begin m) able j u h = put_undecided s m.run m.task _ j u (changed_undecided begun _ (place_in dag m)) h
undecided_back dag limits s (Event.End m o) able j u h = put_undecided s m.run m.task _ j u (changed_undecided _ _ (place_in dag m)) h
undecided_back dag limits s (Event.Close k) able j u h = sym (with_phase_cell s k RunPhase.Closed j u) ∙ h
undecided_back dag limits s (Event.Tick m) able j u h = h

-- ---- what an event may make due

abbrev pub PastTouched : Event → ℕ → ℕ → Type 0
PastTouched e zero u = ⊥
PastTouched e (suc j) u = Touches e j u

same? : (a b : ℕ) → (a ≡ b) ⊎ (a ≡ b → ⊥)
same? a b = grind arith

both? : (a b c d : ℕ) → ((a ≡ b) × (c ≡ d)) ⊎ ((a ≡ b) × (c ≡ d) → ⊥)
both? a b c d = elim (same? a b) [ inr n ↦ inr (λ p. n p.0) | inl p ↦ elim (same? c d) [ inl q ↦ inl (p, q) | inr n ↦ inr (λ q. n q.1) ] ]

pub touches? : (e : Event) (j u : ℕ) → Touches e j u ⊎ (Touches e j u → ⊥)
touches? Event.Open j u = inr (λ x. x)
touches? (Event.Settle k t) j u = both? j k u t
touches? (Event.Expand k t) j u = both? j k u t
touches? (Event.Begin m) j u = inr (λ x. x)
touches? (Event.End m o) j u = both? j m.run u m.task
touches? (Event.Close k) j u = inr (λ x. x)
touches? (Event.Tick m) j u = inr (λ x. x)

pub turns? : (s : State) (e : Event) (j : ℕ) → Turns s e j ⊎ (Turns s e j → ⊥)
turns? s Event.Open j = same? j (next_run s)
turns? s (Event.Settle k t) j = inr (λ x. x)
turns? s (Event.Expand k t) j = inr (λ x. x)
turns? s (Event.Begin m) j = inr (λ x. x)
turns? s (Event.End m o) j = inr (λ x. x)
turns? s (Event.Close k) j = same? j k
turns? s (Event.Tick m) j = inr (λ x. x)

any_touched : (e : Event) (j : ℕ) (us : List ℕ) → ((v : ℕ) × IsOneOf us v × Touches e j v) ⊎ ((v : ℕ) → IsOneOf us v → Touches e j v → ⊥)
any_touched e j [] = inr (λ v h x. h)
any_touched e j (u ∷ us) = elim (touches? e j u) [
  | inl x ↦ inl (u, inl refl, x)
  | inr n ↦ elim (any_touched e j us) [
    | inl w ↦ inl (w.0, inr w.1, w.2)
    | inr none ↦ inr (λ v h x. elim h [ inl same ↦ n (subst (λ (y : ℕ). Touches e j y) same x) | inr h ↦ none v h x ])
  ]
]

pub past_kept : (dag : Dag) (limits : Limits) (s : State) (e : Event) → IsEnabled dag limits s e → (j u : ℕ) → (PastTouched e j u → ⊥) → before_in (after dag s e) j u ≡ before_in s j u
past_kept dag limits s e able zero u n = refl
past_kept dag limits s e able (suc j) u n = ap (λ (x : Seen). x.value) (seen_kept dag limits s e able j u n)

-- the ruling on a task is as it was, or the event touches an upstream
pub rules_alike : (dag : Dag) → IsSound dag → (limits : Limits) (s : State) (e : Event) → IsEnabled dag limits s e → (j u : ℕ) →
    RulesAlike dag (after dag s e) s j u ⊎ ((v : ℕ) × IsOneOf (task_of dag u).upstreams v × Touches e j v)
rules_alike dag sound limits s e able j u = elim (any_touched e j (task_of dag u).upstreams) [
  | inl w ↦ inr w
  | inr none ↦ inl (record {
    upstream_verdict_of = ruling_cong dag (λ v. seen_in (cell_at (after dag s e) j v)) (λ v. seen_in (cell_at s j v)) u (λ v h. seen_kept dag limits s e able j v (none v h));
    source = λ v is. seen_kept dag limits s e able j v (none v (sound.source_is_upstream u v is));
  })
]

-- ---- what a task waits for

not_all : (p : ℕ → Bool) (us : List ℕ) (u : ℕ) → IsOneOf us u → p u ≡ false → list_all p us ≡ true → ⊥
not_all p [] u h e all = h
not_all p (v ∷ us) u h e all = elim h [
  | inl same ↦ let yes : p v ≡ true = (and_parts _ _ all).0 in let no : p v ≡ false = ap p (sym same) ∙ e in let f : true ≡ false = sym yes ∙ no in cc
  | inr g ↦ not_all p us u g e (and_parts (p v) _ all).1
]

-- a task isn't due while one of its upstreams doesn't let it be decided
pub awaits_upstream : (dag : Dag) (s : State) (k t u : ℕ) → IsOneOf (task_of dag t).upstreams u → lets_decide_in dag (task_of dag t) (λ v. seen_in (cell_at s k v)) u ≡ false → IsDecidable dag s k t → ⊥
unfolding decision_in decision
awaits_upstream dag s k t u is_upstream waits able =
    not_all (lets_decide_in dag (task_of dag t) (λ v. seen_in (cell_at s k v))) (task_of dag t).upstreams u is_upstream waits
    (lets dag k (λ v. seen_in (cell_at s k v)) (before_in s k t) t (λ e. able.decides (rw e)))
