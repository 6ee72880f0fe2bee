-- What a cursor says stays true over every event.
use Rattle.std.proofs.Common.{◌≡◌, ◌⊎◌, ◌+◌, ◌++◌, ◌||◌, ℕ, zero, suc, ◌<◌, ◌≤◌, nat_le, Bool, true, false, List, [], ◌∷◌, length, get_or, slice_get, slice_set, Some, None, is_some, refl, sym, ap, ◌∙◌, subst, subst₂, inl, inr, arith}
use Rattle.std.proofs.lemmas.Bool.{or_parts, and_from}
use Rattle.std.proofs.lemmas.List.Folds.{list_all_at}
use Rattle.std.specs.List.{list_all}
use Rattle.bf_core.specs.Terms.{Dag, Limits, JobName, IsOneOf, task_of}
use Rattle.bf_core.specs.declared.state.Cell.{Cell}
use Rattle.bf_core.specs.declared.state.Instance.{Instance}
use Rattle.bf_core.specs.declared.state.Phase.{Phase}
use Rattle.bf_core.specs.declared.state.RunPhase.{RunPhase}
use Rattle.bf_core.specs.declared.state.State.{State}
use Rattle.bf_core.specs.declared.event.Event.{Event}
use Rattle.bf_core.specs.Events.{IsEnabled, IsDecidable, IsPresent, after, begun, change_instance, ended, cell_at, instance_of, put, value_in, next_run, place_in}
use Rattle.bf_core.specs.Cores.{Backfill, MayCome, moved}
use Rattle.bf_core.proofs.Instances.{IsUnfinished, instance_kept, open_cell}
use Rattle.bf_core.proofs.Reading.{put_cases, set_read, with_phase_cell}
use Rattle.bf_core.proofs.Decided.{decided_held, settled_kept}
use Rattle.bf_core.specs.inner.Words.{is_finished}
use Rattle.bf_core.proofs.Numbers.{below_or, le_from, lt_from}
use Rattle.bf_core.proofs.Sums.{finished_settled}
use Rattle.bf_plan.proofs.ListLemmas.{some_same}
use Rattle.bf_due.proofs.Locality.{awaits_upstream}
use Rattle.bf_due.specs.declared.cursors.Cursors.{Cursors}
use Rattle.bf_due.specs.Cursors.{AreFinished, ArePassed, AreNoted, HasFinished, IsFinished, IsNoted, has_early_rule_in, lets}
use Rattle.bf_due.specs.inner.Cursors.{Awaits}
use Rattle.bf_due.specs.inner.Stirring.{all_settled, is_settled}

undecided_open : (c : Cell) → c ≡ Cell.Undecided → value_in c ≡ None
undecided_open c e = ap value_in e

present_open : (dag : Dag) (s : State) (n : JobName) (p : Phase) → IsUnfinished p → IsPresent dag s n p → value_in (cell_at s n.run n.task) ≡ None
present_open dag s n p unfinished at = open_cell (cell_at s n.run n.task) (place_in dag n) at.held at.is_held (rw at.in_phase unfinished)

-- what is settled stays settled
pub settled_stays : (dag : Dag) (limits : Limits) (s : State) (e : Event) → IsEnabled dag limits s e → (j u : ℕ) → is_some (value_in (cell_at s j u)) ≡ true → is_some (value_in (cell_at (after dag s e) j u)) ≡ true
unfolding after
settled_stays dag limits s Event.Open able j u h = rw (with_phase_cell s (next_run s) RunPhase.Open j u) h
settled_stays dag limits s (Event.Settle k t) able j u h = settled_kept s k t _ (undecided_open (cell_at s k t) able.0.undecided) j u h
settled_stays dag limits s (Event.Expand k t) able j u h = settled_kept s k t _ (undecided_open (cell_at s k t) able.0.undecided) j u h
settled_stays dag limits s (Event.Begin n) able j u h = settled_kept s n.run n.task _ (present_open dag s n Phase.Waiting tt able.0) j u h
settled_stays dag limits s (Event.End n o) able j u h = settled_kept s n.run n.task _ (present_open dag s n Phase.Running tt able.0) j u h
settled_stays dag limits s (Event.Close k) able j u h = rw (with_phase_cell s k RunPhase.Closed j u) h
settled_stays dag limits s (Event.Tick m) able j u h = h

or_stays : (a b c : Bool) → (a ≡ true → b ≡ true) → (a || c) ≡ true → (b || c) ≡ true
or_stays true b c h e = rw (h refl)
or_stays false true c h e = refl
or_stays false false c h e = e

-- an upstream that lets a task be decided does so from then on
passed_stays : (dag : Dag) (limits : Limits) (s : State) (e : Event) → IsEnabled dag limits s e → (early : Bool) (k t a : ℕ) → ArePassed early dag s k t a → ArePassed early dag (after dag s e) k t a
passed_stays dag limits s e able early k t a passed i l m =
    or_stays (is_some (value_in (cell_at s k (get_or (task_of dag t).upstreams i 0)))) (is_some (value_in (cell_at (after dag s e) k (get_or (task_of dag t).upstreams i 0)))) _
    (settled_stays dag limits s e able k (get_or (task_of dag t).upstreams i 0)) (passed i l m)

undecided_has : (s : State) (k t i : ℕ) → cell_at s k t ≡ Cell.Undecided → HasFinished (cell_at s k t) i → ⊥
undecided_has s k t i e f = decided_held s k t i f.0 f.1 e

put_finished : (s : State) (k t : ℕ) (c : Cell) (i : ℕ) → (HasFinished (cell_at s k t) i → HasFinished c i) → (j u : ℕ) → HasFinished (cell_at s j u) i → HasFinished (cell_at (put s k t c) j u) i
put_finished s k t c i keeps j u f = elim (put_cases s k t c j u) [
  | inl p ↦ subst (λ (d : Cell). HasFinished d i) (sym p.2) (keeps (subst₂ (λ (a b : ℕ). HasFinished (cell_at s a b) i) p.0 p.1 f))
  | inr e ↦ subst (λ (d : Cell). HasFinished d i) (sym e) f
]

not_both : (p : Phase) → IsFinished p → IsUnfinished p → ⊥
not_both (Phase.Finished o) f u = u
not_both Phase.Waiting f u = f
not_both Phase.Running f u = f

changed_finished : (f : Instance → Instance) (c : Cell) (j : ℕ) (x : Instance) → instance_of c j ≡ Some x → IsUnfinished x.phase → (i : ℕ) → HasFinished c i → HasFinished (change_instance f c j) i
changed_finished f c j x held unfinished i h = elim (instance_kept f c j x held i h.0 h.1) [
  | inl p ↦ absurd (not_both x.phase (subst (λ (y : Instance). IsFinished y.phase) p.0 h.2) unfinished)
  | inr e ↦ (h.0, e, h.2)
]

-- an instance that has finished has done so from then on
finished_stays : (dag : Dag) (limits : Limits) (s : State) (e : Event) → IsEnabled dag limits s e → (j u i : ℕ) → HasFinished (cell_at s j u) i → HasFinished (cell_at (after dag s e) j u) i
unfolding after
finished_stays dag limits s Event.Open able j u i h = rw (with_phase_cell s (next_run s) RunPhase.Open j u) h
finished_stays dag limits s (Event.Settle k t) able j u i h = put_finished s k t _ i (λ f. absurd (undecided_has s k t i able.0.undecided f)) j u h
finished_stays dag limits s (Event.Expand k t) able j u i h = put_finished s k t _ i (λ f. absurd (undecided_has s k t i able.0.undecided f)) j u h
finished_stays dag limits s (Event.Begin n) able j u i h =
    put_finished s n.run n.task _ i (changed_finished begun (cell_at s n.run n.task) (place_in dag n) able.0.held able.0.is_held (rw able.0.in_phase tt) i) j u h
finished_stays dag limits s (Event.End n o) able j u i h =
    put_finished s n.run n.task _ i (changed_finished (ended (task_of dag n.task).retries o) (cell_at s n.run n.task) (place_in dag n) able.0.held able.0.is_held (rw able.0.in_phase tt) i) j u h
finished_stays dag limits s (Event.Close k) able j u i h = rw (with_phase_cell s k RunPhase.Closed j u) h
finished_stays dag limits s (Event.Tick m) able j u i h = h

-- what is noted of the runs is right after each event, and need not be touched
pub reached_stays : (b now : Backfill) (e : Event) → MayCome b e → now ≡ moved b e → (rows : List Cursors) → AreNoted b rows → AreNoted now rows
reached_stays b now e able same rows reached = subst (λ (n : Backfill). AreNoted n rows) (sym same) (λ k row at. record {
  passed = λ t. passed_stays b.dag b.limits b.state e able.0 (has_early_rule_in b.dag t) k t _ ((reached k row at).passed t);
  upstreams = λ t. passed_stays b.dag b.limits b.state e able.0 false k t _ ((reached k row at).upstreams t);
  finished = λ t i l. finished_stays b.dag b.limits b.state e able.0 k t i ((reached k row at).finished t i l);
  settled = λ t l. settled_stays b.dag b.limits b.state e able.0 k t ((reached k row at).settled t l);
})

-- ---- of a row

-- nothing is known where nothing is noted
pub unknown : (b : Backfill) (k : ℕ) (row : Cursors) → ((t : ℕ) → get_or row.passed.items t 0 ≡ 0) → ((t : ℕ) → get_or row.settled_upstreams.items t 0 ≡ 0) → ((t : ℕ) → get_or row.finished.items t 0 ≡ 0) → row.settled ≡ 0 → IsNoted b k row
unknown b k row passed upstreams finished settled = record {
  passed = λ t i l m. absurd (omega (arith, l, passed t));
  upstreams = λ t i l m. absurd (omega (arith, l, upstreams t));
  finished = λ t i l. absurd (omega (arith, l, finished t));
  settled = λ t l. absurd (omega (arith, l, settled));
}

pub finished_noted : (b : Backfill) (k t n : ℕ) (old new : Cursors) → IsNoted b k old → AreFinished (cell_at b.state k t) n → new.passed.items ≡ old.passed.items → new.settled_upstreams.items ≡ old.settled_upstreams.items → new.finished.items ≡ slice_set old.finished.items t n → new.settled ≡ old.settled → IsNoted b k new
finished_noted b k t n old new is here passed upstreams finished settled = record {
  passed = λ u. rw passed (is.passed u);
  upstreams = λ u. rw upstreams (is.upstreams u);
  finished = λ u. elim (set_read old.finished.items t n u 0) [
    | inl p ↦ rw (finished, p.1) (subst (λ (v : ℕ). AreFinished (cell_at b.state k v) n) (sym p.0) here)
    | inr e ↦ rw (finished, e) (is.finished u)
  ];
  settled = λ u l. is.settled u (omega (arith, l, settled));
}

-- ---- instances

is_unfinished : (p : Phase) → (IsFinished p → ⊥) → IsUnfinished p
is_unfinished (Phase.Finished o) n = absurd (n tt)
is_unfinished Phase.Waiting n = tt
is_unfinished Phase.Running n = tt

-- a cell with an instance that hasn't finished isn't settled
pub not_settled : (xs : List Instance) (i : ℕ) (x : Instance) → slice_get xs i ≡ Some x → (IsFinished x.phase → ⊥) → is_some (value_in (Cell.Ran xs)) ≡ false
not_settled xs i x held n = ap is_some (open_cell (Cell.Ran xs) i x held (is_unfinished x.phase n))

finished_yes : (p : Phase) → IsFinished p → is_finished p ≡ true
finished_yes (Phase.Finished o) f = refl
finished_yes Phase.Waiting f = absurd f
finished_yes Phase.Running f = absurd f

all_finished : (xs : List Instance) → AreFinished (Cell.Ran xs) (length xs) → list_all (λ x. is_finished x.phase) xs ≡ true
all_finished [] all = refl
all_finished (x ∷ xs) all =
    let first : HasFinished (Cell.Ran (x ∷ xs)) 0 = all 0 (omega arith) in
    let same : x ≡ first.0 = some_same first.1 in
    and_from _ _ (finished_yes x.phase (subst (λ (y : Instance). IsFinished y.phase) (sym same) first.2)) (all_finished xs (λ i l. all (suc i) (omega (arith, l))))

-- one whose instances have all finished is
pub finished_is_settled : (xs : List Instance) → AreFinished (Cell.Ran xs) (length xs) → is_some (value_in (Cell.Ran xs)) ≡ true
finished_is_settled xs all = sym (finished_settled xs) ∙ all_finished xs all

pub finished_more : (xs : List Instance) (n : ℕ) (x : Instance) → AreFinished (Cell.Ran xs) n → slice_get xs n ≡ Some x → IsFinished x.phase → AreFinished (Cell.Ran xs) (n + 1)
finished_more xs n x before held f i l = elim (below_or i n l) [ inl less ↦ before i less | inr same ↦ (x, ap (λ (j : ℕ). slice_get xs j) same ∙ held, f) ]

-- ---- upstreams

member : (us : List ℕ) (i : ℕ) → i < length us → IsOneOf us (get_or us i 0)
member [] i l = absurd (omega (arith, l))
member (u ∷ us) zero l = inl refl
member (u ∷ us) (suc i) l = inr (member us i (omega arith))

-- while a task awaits an upstream it isn't due, whatever comes of the others
pub awaits_not_due : (dag : Dag) (s : State) (k t i : ℕ) → Awaits (has_early_rule_in dag t) dag s k t i → IsDecidable dag s k t → ⊥
awaits_not_due dag s k t i w due = awaits_upstream dag s k t (get_or (task_of dag t).upstreams i 0) (member (task_of dag t).upstreams i w.0) w.1 due

-- while it awaits one to be settled not all are
pub awaits_unsettled : (dag : Dag) (s : State) (k t i : ℕ) → Awaits false dag s k t i → all_settled dag s k t ≡ false
awaits_unsettled dag s k t i w = list_all_at (is_settled s k) (task_of dag t).upstreams i 0 w.0 (or_parts _ false w.1).0

pub passed_more : (dag : Dag) (s : State) (early : Bool) (k t n : ℕ) → ArePassed early dag s k t n → lets early dag s k (get_or (task_of dag t).upstreams n 0) ≡ true → ArePassed early dag s k t (n + 1)
passed_more dag s early k t n passed here i l m = elim (below_or i n l) [
  | inl less ↦ passed i less m
  | inr same ↦ subst (λ (j : ℕ). lets early dag s k (get_or (task_of dag t).upstreams j 0) ≡ true) (sym same) here
]

pub held_at : {X : Type 0} (xs : List X) (i : ℕ) (x : X) → i < length xs → x ≡ get_or xs i x → slice_get xs i ≡ Some x
held_at [] i x l e = absurd (omega (arith, l))
held_at (y ∷ ys) zero x l e = ap Some (sym e)
held_at (y ∷ ys) (suc i) x l e = held_at ys i x (omega arith) e

-- what was noted of the instances of a cell
pub noted_finished : (b : Backfill) (k t : ℕ) (row : Cursors) → IsNoted b k row → (xs : List Instance) → cell_at b.state k t ≡ Cell.Ran xs → (n : ℕ) → n ≡ get_or row.finished.items t 0 → AreFinished (Cell.Ran xs) n
noted_finished b k t row is xs cell n e = rw e (subst (λ (c : Cell). AreFinished c (get_or row.finished.items t 0)) cell (is.finished t))

-- a cell is settled where as many of its instances have finished as it has
pub settled_by : (xs : List Instance) (n : ℕ) → n ≤ length xs → AreFinished (Cell.Ran xs) n → (n < length xs → is_some (value_in (Cell.Ran xs)) ≡ false) → nat_le (length xs) n ≡ is_some (value_in (Cell.Ran xs))
settled_by xs n within finished unfinished = go (nat_le (length xs) n) refl
  where
    go : (b : Bool) → nat_le (length xs) n ≡ b → nat_le (length xs) n ≡ is_some (value_in (Cell.Ran xs))
    go true e =
        let all : n ≡ length xs = let l : length xs ≤ n = le_from (length xs) n e in omega (arith, l, within) in
        e ∙ sym (finished_is_settled xs (subst (λ (m : ℕ). AreFinished (Cell.Ran xs) m) all finished))
    go false e = e ∙ sym (unfinished (lt_from (length xs) n e))

-- ---- of the rows of all runs

set_cases : (rows : List Cursors) (k : ℕ) (row : Cursors) (j : ℕ) (x : Cursors) → slice_get (slice_set rows k row) j ≡ Some x → ((j ≡ k) × (x ≡ row)) ⊎ (slice_get rows j ≡ Some x)
set_cases [] k row j x e = inr e
set_cases (r ∷ rows) zero row zero x e = let same : row ≡ x = cc in inl (refl, sym same)
set_cases (r ∷ rows) zero row (suc j) x e = inr e
set_cases (r ∷ rows) (suc k) row zero x e = inr e
set_cases (r ∷ rows) (suc k) row (suc j) x e = elim (set_cases rows k row j x e) [ inl p ↦ inl (ap suc p.0, p.1) | inr h ↦ inr h ]

-- a row that is right is put in the place of another
pub row_put : (b : Backfill) (rows : List Cursors) (k : ℕ) (row : Cursors) → AreNoted b rows → IsNoted b k row → AreNoted b (slice_set rows k row)
row_put b rows k row reached is j x at = elim (set_cases rows k row j x at) [
  | inl p ↦ subst₂ (λ (i : ℕ) (y : Cursors). IsNoted b i y) (sym p.0) (sym p.1) is
  | inr h ↦ reached j x h
]

push_cases : (rows : List Cursors) (row : Cursors) (j : ℕ) (x : Cursors) → slice_get (rows ++ row ∷ []) j ≡ Some x → (x ≡ row) ⊎ (slice_get rows j ≡ Some x)
push_cases [] row zero x e = let same : row ≡ x = cc in inl (sym same)
push_cases [] row (suc j) x e = cc
push_cases (r ∷ rows) row zero x e = inr e
push_cases (r ∷ rows) row (suc j) x e = push_cases rows row j x e

pub row_pushed : (b : Backfill) (rows : List Cursors) (row : Cursors) → AreNoted b rows → ((k : ℕ) → IsNoted b k row) → AreNoted b (rows ++ row ∷ [])
row_pushed b rows row reached is j x at = elim (push_cases rows row j x at) [ inl same ↦ subst (λ (y : Cursors). IsNoted b j y) (sym same) (is j) | inr h ↦ reached j x h ]

pub none_reached : (b : Backfill) (rows : List Cursors) → rows ≡ [] → AreNoted b rows
none_reached b rows e k row at = let f : None ≡ Some row = subst (λ (rs : List Cursors). slice_get rs k ≡ Some row) e at in cc

pub length_pushed : (rows : List Cursors) (row : Cursors) → length (rows ++ row ∷ []) ≡ length rows + 1
length_pushed [] row = omega arith
length_pushed (r ∷ rows) row = let h : length (rows ++ row ∷ []) ≡ length rows + 1 = length_pushed rows row in omega (arith, h)
