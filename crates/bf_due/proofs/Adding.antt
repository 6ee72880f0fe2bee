-- Adding steps to an agenda, of several kinds in turn.
use Rattle.std.proofs.Common.{◌≡◌, ◌⊎◌, ℕ, zero, suc, ◌+◌, ◌<◌, ◌≤◌, Bool, true, false, List, [], ◌∷◌, length, get_or, slice_set, Some, is_some, Contains, refl, sym, ap, ◌∙◌, subst, subst₂, inl, inr, arith}
use Rattle.std.proofs.lemmas.Bool.{both_ways}
use Rattle.std.specs.List.Sorted.{IsPermutation, IsStrictlyIncreasing}
use Rattle.bf_graph.specs.Edges.{IsRank, IsUpstream}
use Rattle.bf_graph.specs.Lookups.{IsRisingListOf}
use Rattle.bf_graph.proofs.PathLemmas.{task_within}
use Rattle.bf_plan.specs.Plans.{shape_of}
use Rattle.bf_pool.proofs.WeightFacts.{tasks_there}
use Rattle.bf_core.specs.Terms.{Dag, task_of}
use Rattle.bf_core.specs.declared.event.Event.{Event}
use Rattle.bf_core.specs.declared.state.State.{State}
use Rattle.bf_core.specs.Events.{IsDecidable, goes_on_in}
use Rattle.bf_core.specs.Cores.{Backfill, MayCome}
use Rattle.bf_core.proofs.Shape.{open_run_exists}
use Rattle.bf_core.proofs.Numbers.{below_or}
use Rattle.bf_due.specs.declared.agenda.Step.{Step}
use Rattle.bf_due.specs.declared.agenda.Turn.{Turn}
use Rattle.bf_due.specs.declared.cursors.Cursors.{Cursors}
use Rattle.bf_due.specs.declared.news.News.{News}
use Rattle.bf_due.specs.Cursors.{AreNoted}
use Rattle.bf_due.specs.inner.Stirring.{is_settled, may_let_be_decided_in}
use Rattle.bf_due.specs.Dues.{HasAdded, IsDueStep, IsRanked}
use Rattle.bf_due.specs.inner.Dues.{Asks, AsksAll, IsAround, IsBelow, IsCloseOf, IsOfFirst, IsOfRun, IsOfRunBelow, IsOfTask, IsOpening, IsStirred, IsUnder}
use Rattle.bf_due.proofs.AgendaFacts.{kept_added, only_added, there_added}
use Rattle.bf_due.proofs.Reached.{held_at, row_put}

module _ (b : Backfill) where
  -- nothing is added where none of these may come
  pub none_added : (P : Step → Type 0) (old : List Step) → ((x : Step) → P x → IsDueStep b x → ⊥) → HasAdded b P old old
  none_added P old none = record { kept = λ x c. c; added = λ x p due. absurd (none x p due); ranked = λ h. h }

  -- those of one kind, and then those of another
  pub then_added : (P Q R : Step → Type 0) (old mid new : List Step) → ((x : Step) → R x → IsDueStep b x → P x ⊎ Q x) → HasAdded b P old mid → HasAdded b Q mid new → HasAdded b R old new
  then_added P Q R old mid new split first second = record {
    kept = λ x c. second.kept x (first.kept x c);
    added = λ x r due. elim (split x r due) [ inl p ↦ second.kept x (first.added x p due) | inr q ↦ second.added x q due ];
    ranked = λ h. second.ranked (first.ranked h);
  }

  -- of fewer steps too those that may come were added
  pub fewer_added : (P Q : Step → Type 0) (old new : List Step) → ((x : Step) → Q x → P x) → HasAdded b P old new → HasAdded b Q old new
  fewer_added P Q old new fewer all = record { kept = all.kept; added = λ x q due. all.added x (fewer x q) due; ranked = all.ranked }

  -- one step was added, and no other of these may come
  pub one_added : (P : Step → Type 0) (step : Step) (old new : List Step) → IsRanked b.dag step → ((x : Step) → P x → IsDueStep b x → x ≡ step) → IsPermutation (step ∷ old) new → HasAdded b P old new
  one_added P step old new is_ranked only gained = record {
    kept = kept_added step old new gained;
    added = λ x p due. subst (λ (y : Step). Contains new y) (sym (only x p due)) (there_added step old new gained);
    ranked = λ h x c. elim (only_added step old new gained x c) [ inl same ↦ subst (λ (y : Step). IsRanked b.dag y) (sym same) is_ranked | inr before ↦ h x before ];
  }

-- ---- the step of a task

pub one_rank : (ups : List (List ℕ)) (t q r : ℕ) → IsRank ups t q → IsRank ups t r → q ≡ r
one_rank ups t q r a b = let x : q ≤ r = b.longest q a.path in let y : r ≤ q = a.longest r b.path in omega arith

-- the step that decides a task by its expansion, or without
abbrev pub step_of : Bool → Turn → Step
step_of true x = Step.Expand x
step_of false x = Step.Settle x

-- where the task may not be decided, no step of it may come
pub none_decides : (b : Backfill) (k t : ℕ) → ¬ (IsDecidable b.dag b.state k t) → (x : Step) → IsOfTask k t x → IsDueStep b x → ⊥
none_decides b k t none (Step.Close j) of due = absurd of
none_decides b k t none Step.Open of due = absurd of
none_decides b k t none (Step.Settle y) of due = none (subst₂ (λ (j u : ℕ). IsDecidable b.dag b.state j u) of.0 of.1 due.1.0.0)
none_decides b k t none (Step.Expand y) of due = none (subst₂ (λ (j u : ℕ). IsDecidable b.dag b.state j u) of.0 of.1 due.1.0.0)

settled_turn : (y : Turn) (k r t : ℕ) → y.run ≡ k → y.rank ≡ r → y.task ≡ t → Step.Settle y ≡ Step.Settle (record { run = k; rank = r; task = t })
settled_turn y k r t a b c = rw (← a, ← b, ← c) refl

pub unexpanded : (dag : Dag) (s : State) (k t : ℕ) → is_some (task_of dag t).expand ≡ false → goes_on_in dag s k t ≡ false
unfolding goes_on_in
unexpanded dag s k t none = rw none refl

-- where a task isn't expanded, just one step of it may come, and only where it may be decided
pub settles : (b : Backfill) (k t r : ℕ) → is_some (task_of b.dag t).expand ≡ false → IsRank (shape_of b.dag).upstreams t r → (x : Step) → IsOfTask k t x → IsDueStep b x →
    (Step.Settle (record { run = k; rank = r; task = t }) ≡ x) × IsDecidable b.dag b.state k t
settles b k t r none ranked (Step.Close j) of due = absurd of
settles b k t r none ranked Step.Open of due = absurd of
settles b k t r none ranked (Step.Settle y) of due = (
  sym (settled_turn y k r t of.0 (one_rank (shape_of b.dag).upstreams t y.rank r (subst (λ (u : ℕ). IsRank (shape_of b.dag).upstreams u y.rank) of.1 due.0) ranked) of.1),
  subst₂ (λ (j u : ℕ). IsDecidable b.dag b.state j u) of.0 of.1 due.1.0.0,
)
settles b k t r none ranked (Step.Expand y) of due =
    absurd (both_ways _ (unexpanded b.dag b.state y.run y.task (subst (λ (u : ℕ). is_some (task_of b.dag u).expand ≡ false) (sym of.1) none)) due.1.0.1)

-- ---- the steps of several tasks

at_any : (xs : List ℕ) (i d : ℕ) → i < length xs → get_or xs i d ≡ get_or xs i 0
at_any [] i d l = absurd (omega (arith, l))
at_any (x ∷ xs) zero d l = refl
at_any (x ∷ xs) (suc i) d l = at_any xs i d (omega arith)

any_of : (xs : List ℕ) (u : ℕ) → Contains xs u → (i : ℕ) × (i < length xs) × (get_or xs i 0 ≡ u)
any_of xs u c = (c.0, c.1, sym (at_any xs c.0 u c.1) ∙ c.2)

-- numbers below n that rise are at most n
at_least : (xs : List ℕ) → IsStrictlyIncreasing xs → (i : ℕ) → i < length xs → i ≤ get_or xs i 0
at_least xs rising zero l = omega arith
at_least xs rising (suc i) l =
    let here : i ≤ get_or xs i 0 = at_least xs rising i (omega arith) in
    let more : get_or xs i 0 < get_or xs (i + 1) 0 = rising i (omega (arith, l)) in
    let same : get_or xs (i + 1) 0 ≡ get_or xs (suc i) 0 = ap (λ j. get_or xs j 0) (omega arith) in
    omega (arith, here, more, same)

pub few_rising : (xs : List ℕ) (n : ℕ) → IsStrictlyIncreasing xs → ((i : ℕ) → i < length xs → get_or xs i 0 < n) → length xs ≤ n
few_rising [] n rising below = omega arith
few_rising (x ∷ xs) n rising below =
    let last : length xs < length (x ∷ xs) = omega arith in
    let a : length xs ≤ get_or (x ∷ xs) (length xs) 0 = at_least (x ∷ xs) rising (length xs) last in
    let b : get_or (x ∷ xs) (length xs) 0 < n = below (length xs) last in
    omega (arith, a, b)

-- what is listed below a task is a task
pub below_there : (dag : Dag) (u : ℕ) (ds : List ℕ) → IsRisingListOf (IsUpstream (shape_of dag).upstreams u) ds → (i : ℕ) → i < length ds → get_or ds i 0 < length dag.tasks
below_there dag u ds rising i l =
    let listed : Contains ds (get_or ds i 0) = (i, l, at_any ds i (get_or ds i 0) l) in
    let there : get_or ds i 0 < length (shape_of dag).upstreams = task_within (shape_of dag).upstreams u (get_or ds i 0) ((rising.exact (get_or ds i 0)).0 listed) in
    omega (arith, there, tasks_there dag)

-- a step of one of the first n + 1 is one of the first n or of that one
first_more : (dag : Dag) (s : State) (n : News) (ts : List ℕ) (m : ℕ) (x : Step) → IsOfFirst dag s n ts (m + 1) x → IsOfFirst dag s n ts m x ⊎ IsStirred dag s n (get_or ts m 0) x
first_more dag s n ts m x of = elim (below_or of.0 m of.1) [
  | inl less ↦ inl (of.0, less, of.2)
  | inr same ↦ inr (subst (λ (i : ℕ). IsStirred dag s n (get_or ts i 0) x) same of.2)
]

-- the same, of tasks by number
below_more : (k n : ℕ) (x : Step) → IsBelow k (n + 1) x → IsBelow k n x ⊎ IsOfTask k n x
below_more k n (Step.Close j) of = absurd of
below_more k n Step.Open of = absurd of
below_more k n (Step.Settle y) of = elim (below_or y.task n of.1) [ inl l ↦ inl (of.0, l) | inr e ↦ inr (of.0, e) ]
below_more k n (Step.Expand y) of = elim (below_or y.task n of.1) [ inl l ↦ inl (of.0, l) | inr e ↦ inr (of.0, e) ]

none_below_zero : (k : ℕ) (x : Step) → IsBelow k 0 x → ⊥
none_below_zero k (Step.Close j) of = of
none_below_zero k Step.Open of = of
none_below_zero k (Step.Settle y) of = omega (arith, of.1)
none_below_zero k (Step.Expand y) of = omega (arith, of.1)

-- ---- the steps of runs

run_split : (b : Backfill) (k : ℕ) (x : Step) → IsOfRun k x → IsDueStep b x → IsBelow k (length b.dag.tasks) x ⊎ IsCloseOf k x
run_split b k (Step.Close j) of due = inr of
run_split b k Step.Open of due = absurd of
run_split b k (Step.Settle y) of due = inl (of, due.1.0.0.is_task)
run_split b k (Step.Expand y) of due = inl (of, due.1.0.0.is_task)

runs_more : (n : ℕ) (x : Step) → IsOfRunBelow (n + 1) x → IsOfRunBelow n x ⊎ IsOfRun n x
runs_more n (Step.Close j) of = below_or j n of
runs_more n Step.Open of = absurd of
runs_more n (Step.Settle y) of = below_or y.run n of
runs_more n (Step.Expand y) of = below_or y.run n of

pub one_run_more : (b : Backfill) (n : ℕ) (old mid new : List Step) → HasAdded b (IsOfRunBelow n) old mid → HasAdded b (IsOfRun n) mid new → HasAdded b (IsOfRunBelow (n + 1)) old new
one_run_more b n old mid new before here = then_added b _ _ _ old mid new (λ x of due. runs_more n x of) before here

none_run_below : (x : Step) → IsOfRunBelow 0 x → ⊥
none_run_below (Step.Close j) of = omega (arith, of)
none_run_below Step.Open of = of
none_run_below (Step.Settle y) of = omega (arith, of)
none_run_below (Step.Expand y) of = omega (arith, of)

pub no_runs : (b : Backfill) (old : List Step) → HasAdded b (IsOfRunBelow 0) old old
no_runs b old = none_added b _ old (λ x of due. none_run_below x of)

-- a step under the news: of the tasks below theirs, or the close of the run
under_split : (b : Backfill) (s : State) (n : News) (ds : List ℕ) → IsRisingListOf (IsUpstream (shape_of b.dag).upstreams n.task) ds → (x : Step) → IsUnder b.dag s n x → IsOfFirst b.dag s n ds (length ds) x ⊎ IsCloseOf n.run x
under_split b s n ds rising (Step.Close k) of = inr of
under_split b s n ds rising Step.Open of = absurd of
under_split b s n ds rising (Step.Settle y) of =
    let at : _ = any_of ds y.task ((rising.exact y.task).1 of.1) in
    inl (at.0, at.1, ((of.0, sym at.2), subst (λ (t : ℕ). may_let_be_decided_in b.dag s n t ≡ true) (sym at.2) of.2))
under_split b s n ds rising (Step.Expand y) of =
    let at : _ = any_of ds y.task ((rising.exact y.task).1 of.1) in
    inl (at.0, at.1, ((of.0, sym at.2), subst (λ (t : ℕ). may_let_be_decided_in b.dag s n t ≡ true) (sym at.2) of.2))

-- a step around the news: under them, or of the same task in the next run once it is settled
around_split : (dag : Dag) (s : State) (n : News) (x : Step) → IsAround dag s n x → IsUnder dag s n x ⊎ (IsOfTask (n.run + 1) n.task x × (is_settled s n.run n.task ≡ true))
around_split dag s n (Step.Close k) of = inl of
around_split dag s n Step.Open of = absurd of
around_split dag s n (Step.Settle y) (inl below) = inl below
around_split dag s n (Step.Settle y) (inr behind) = inr ((behind.0, behind.1), behind.2)
around_split dag s n (Step.Expand y) (inl below) = inl below
around_split dag s n (Step.Expand y) (inr behind) = inr ((behind.0, behind.1), behind.2)

-- ---- single steps

pub just_this : (a x : Step) → Some a ≡ Some x → x ≡ a
just_this a x e = cc

pub is_close : (k : ℕ) (x : Step) → IsCloseOf k x → x ≡ Step.Close k
is_close k (Step.Close j) of = ap Step.Close of
is_close k Step.Open of = absurd of
is_close k (Step.Settle y) of = absurd of
is_close k (Step.Expand y) of = absurd of

pub is_opening : (x : Step) → IsOpening x → x ≡ Step.Open
is_opening (Step.Close j) of = absurd of
is_opening Step.Open of = refl
is_opening (Step.Settle y) of = absurd of
is_opening (Step.Expand y) of = absurd of

-- ---- with what is noted

pub asks_none : (b : Backfill) (k : ℕ) (P : Step → Type 0) (row : Cursors) (old : List Step) → ((x : Step) → P x → IsDueStep b x → ⊥) → Asks b k P row row old old
asks_none b k P row old none = λ is. (is, none_added b P old none)

-- those of one kind, and then those of another
then_asks : (b : Backfill) (k : ℕ) (P Q R : Step → Type 0) (first second third : Cursors) (old mid new : List Step) → ((x : Step) → R x → IsDueStep b x → P x ⊎ Q x) →
    Asks b k P first second old mid → Asks b k Q second third mid new → Asks b k R first third old new
then_asks b k P Q R first second third old mid new split p q = λ is.
    let here : _ = p is in
    let there : _ = q here.0 in
    (there.0, then_added b P Q R old mid new split here.1 there.1)

-- news that don't matter to a task stir it not
pub not_stirred : (b : Backfill) (s : State) (n : News) (t : ℕ) → may_let_be_decided_in b.dag s n t ≡ false → (old : List Step) → HasAdded b (IsStirred b.dag s n t) old old
not_stirred b s n t calm old = none_added b _ old (λ x of due. both_ways _ calm of.1)

pub one_stirred : (b : Backfill) (s : State) (n : News) (ts : List ℕ) (m : ℕ) (first second third : Cursors) (old mid new : List Step) →
    Asks b n.run (IsOfFirst b.dag s n ts m) first second old mid → Asks b n.run (IsStirred b.dag s n (get_or ts m 0)) second third mid new → Asks b n.run (IsOfFirst b.dag s n ts (m + 1)) first third old new
one_stirred b s n ts m first second third old mid new = then_asks b n.run _ _ _ first second third old mid new (λ x of due. first_more b.dag s n ts m x of)

pub none_stirred : (b : Backfill) (s : State) (n : News) (ts : List ℕ) (row : Cursors) (old : List Step) → Asks b n.run (IsOfFirst b.dag s n ts 0) row row old old
none_stirred b s n ts row old = asks_none b n.run _ row old (λ x of due. omega (arith, of.1))

pub below_asked : (b : Backfill) (k n : ℕ) (first second third : Cursors) (old mid new : List Step) →
    Asks b k (IsBelow k n) first second old mid → Asks b k (IsOfTask k n) second third mid new → Asks b k (IsBelow k (n + 1)) first third old new
below_asked b k n first second third old mid new = then_asks b k _ _ _ first second third old mid new (λ x of due. below_more k n x of)

pub none_below : (b : Backfill) (k : ℕ) (row : Cursors) (old : List Step) → Asks b k (IsBelow k 0) row row old old
none_below b k row old = asks_none b k _ row old (λ x of due. none_below_zero k x of)

pub run_asked : (b : Backfill) (k : ℕ) (first second third : Cursors) (old mid new : List Step) →
    Asks b k (IsBelow k (length b.dag.tasks)) first second old mid → Asks b k (IsCloseOf k) second third mid new → Asks b k (IsOfRun k) first third old new
run_asked b k first second third old mid new = then_asks b k _ _ _ first second third old mid new (run_split b k)

pub under_asked : (b : Backfill) (s : State) (n : News) (ds : List ℕ) → IsRisingListOf (IsUpstream (shape_of b.dag).upstreams n.task) ds → (first second third : Cursors) (old mid new : List Step) →
    Asks b n.run (IsOfFirst b.dag s n ds (length ds)) first second old mid → Asks b n.run (IsCloseOf n.run) second third mid new → Asks b n.run (IsUnder b.dag s n) first third old new
under_asked b s n ds rising first second third old mid new = then_asks b n.run _ _ _ first second third old mid new (λ x of due. under_split b s n ds rising x of)

-- a run is asked by its row
pub row_asked : (b : Backfill) (k : ℕ) (P : Step → Type 0) (rows : List Cursors) (row after : Cursors) (old new : List Step) → k < length rows → row ≡ get_or rows k row → Asks b k P row after old new →
    AsksAll b P rows (slice_set rows k after) old new
row_asked b k P rows row after old new l at asks = λ reached.
    let r : _ = asks (reached k row (held_at rows k row l at)) in
    (row_put b rows k after reached r.0, r.1)

pub around_asked : (b : Backfill) (s : State) (n : News) (first second third : List Cursors) (old mid new : List Step) →
    AsksAll b (IsUnder b.dag s n) first second old mid → AsksAll b (IsOfTask (n.run + 1) n.task) second third mid new → AsksAll b (IsAround b.dag s n) first third old new
around_asked b s n first second third old mid new p q = λ reached.
    let here : _ = p reached in
    let there : _ = q here.0 in
    (there.0, then_added b _ _ _ old mid new (λ x of due. behind_or x of) here.1 there.1)
  where
    behind_or : (x : Step) → IsAround b.dag s n x → IsUnder b.dag s n x ⊎ IsOfTask (n.run + 1) n.task x
    behind_or x of = elim (around_split b.dag s n x of) [ inl under ↦ inl under | inr behind ↦ inr behind.0 ]

-- while the task isn't settled there is nothing to ask of the next run
pub around_open : (b : Backfill) (s : State) (n : News) (first second : List Cursors) (old new : List Step) →
    AsksAll b (IsUnder b.dag s n) first second old new → (AreNoted b first → is_settled s n.run n.task ≡ false) → AsksAll b (IsAround b.dag s n) first second old new
around_open b s n first second old new p unsettled = λ reached.
    ((p reached).0, fewer_added b _ _ old new (λ x of. only x (unsettled reached) (around_split b.dag s n x of)) (p reached).1)
  where
    only : (x : Step) → is_settled s n.run n.task ≡ false → IsUnder b.dag s n x ⊎ (IsOfTask (n.run + 1) n.task x × (is_settled s n.run n.task ≡ true)) → IsUnder b.dag s n x
    only x h (inl under) = under
    only x h (inr behind) = absurd (both_ways _ h behind.1)

-- ---- where there is none

pub no_close : (b : Backfill) (k : ℕ) → ¬ (MayCome b (Event.Close k)) → (x : Step) → IsCloseOf k x → IsDueStep b x → ⊥
no_close b k none (Step.Close j) of due = none (subst (λ (i : ℕ). MayCome b (Event.Close i)) of due.1)
no_close b k none Step.Open of due = of
no_close b k none (Step.Settle y) of due = of
no_close b k none (Step.Expand y) of due = of

-- a run with a task that isn't settled may not be closed
pub no_close_before : (b : Backfill) (k t : ℕ) → t < length b.dag.tasks → is_settled b.state k t ≡ false → (x : Step) → IsCloseOf k x → IsDueStep b x → ⊥
no_close_before b k t there unsettled = no_close b k (λ may. both_ways _ unsettled (may.0.1 t there))

-- a run without a row is not there, so none of its steps may come
pub no_run : (b : Backfill) (k n : ℕ) → length b.state.runs ≤ n → n ≤ k → (x : Step) → IsOfRun k x → IsDueStep b x → ⊥
no_run b k n few l (Step.Close j) of due = let there : j < length b.state.runs = open_run_exists b.state j due.1.0.0 in omega (arith, few, l, of, there)
no_run b k n few l Step.Open of due = of
no_run b k n few l (Step.Settle y) of due = let there : y.run < length b.state.runs = open_run_exists b.state y.run due.1.0.0.run_is_open in omega (arith, few, l, of, there)
no_run b k n few l (Step.Expand y) of due = let there : y.run < length b.state.runs = open_run_exists b.state y.run due.1.0.0.run_is_open in omega (arith, few, l, of, there)

pub no_task : (b : Backfill) (k t n : ℕ) → length b.state.runs ≤ n → n ≤ k → (x : Step) → IsOfTask k t x → IsDueStep b x → ⊥
no_task b k t n few l (Step.Close j) of due = of
no_task b k t n few l Step.Open of due = of
no_task b k t n few l (Step.Settle y) of due = no_run b k n few l (Step.Settle y) of.0 due
no_task b k t n few l (Step.Expand y) of due = no_run b k n few l (Step.Expand y) of.0 due

pub skipped : (b : Backfill) (P : Step → Type 0) (rows : List Cursors) (old : List Step) → ((x : Step) → P x → IsDueStep b x → ⊥) → AsksAll b P rows rows old old
skipped b P rows old none = λ reached. (reached, none_added b P old none)
