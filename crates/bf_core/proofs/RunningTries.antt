-- Which tries run after an event; and while none runs, a backfill that hasn't ended goes on.
use Rattle.std.proofs.Common.{◌≡◌, ℕ, suc, zero, ◌+◌, ◌*◌, ◌<◌, ◌≤◌, ◌⊎◌, nat_le, Bool, true, false, if◌then◌else◌, List, [], ◌∷◌, length, map, slice_get, slice_index_or, slice_set, Some, refl, sym, ap, ◌∙◌, arith, inl, inr, sum_by}
use Rattle.std.proofs.lemmas.Bool.Decides.{nat_tests}
use Rattle.std.proofs.lemmas.List.{set_past}
use Rattle.std.proofs.lemmas.List.Sums.{sum_by-cons}
use Rattle.std.specs.FinMap as map
use Rattle.bf_plan.specs.Sound.{AreLimits}
use Rattle.bf_try.specs.Asked.{Asked}
use Rattle.bf_core.specs.Terms.{Dag, task_of, Limits, Given, Outcome, JobName, State, Run, RunPhase, Cell, Instance, Phase, Event, name_cmp, name_of, Entry, demand_of, pool_size}
use Rattle.bf_core.specs.Deciding.{Decision}
use Rattle.bf_core.specs.Events.{no_run, cell_at, cell_in, put, put_in, phase_put_in, with_phase, next_run, instance_of, change_at, change_instance, begun, ended, fresh, cell_of, decision_in, given_in, given_of, place_in, one_running, running_in, held_by, held_from, occupied, has_room_in, IsPresent, IsDecidable, IsEnabled, after, empty_runs_of, start, undecided_cells_of}
use Rattle.bf_core.specs.Running.{running_by_place, running_now, running_tries, sum_by_place, sum_of_running, while_running}
use Rattle.bf_core.specs.Cores.{Backfill, GoesOn, IsReplay}
use Rattle.bf_core.proofs.Decided.{decided_held}
use Rattle.bf_core.proofs.Shape.{IsShaped, row_in, open_run_exists}
use Rattle.bf_core.proofs.Pools.{not_running, in_row, decide_in}
use Rattle.bf_core.proofs.Waiting.{never_stuck_in_time}

-- ---- sums by place

sum_by_place_set : {A : Type 0} (f : ℕ → A → ℕ) (xs : List A) (k : ℕ) (x d : A) → k < length xs →
    sum_by_place f (slice_set xs k x) + f k (slice_index_or xs k d) ≡ sum_by_place f xs + f k x
sum_by_place_set f [] k x d l = absurd (omega (arith, l))
sum_by_place_set f (y ∷ ys) zero x d l = omega arith
sum_by_place_set f (y ∷ ys) (suc k) x d l = let rest : _ = sum_by_place_set (λ i. f (suc i)) ys k x d (omega (arith, l)) in omega (arith, rest)

-- ---- one instance of a cell

change_sum : (f : ℕ → Instance → ℕ) (g : Instance → Instance) (xs : List Instance) (i : ℕ) (x : Instance) → slice_get xs i ≡ Some x →
    sum_by_place f (change_at g xs i) + f i x ≡ sum_by_place f xs + f i (g x)
change_sum f g [] i x e = cc
change_sum f g (z ∷ zs) zero x e =
    let same : z ≡ x = cc in
    let a : f 0 z ≡ f 0 x = ap (f 0) same in
    let b : f 0 (g z) ≡ f 0 (g x) = ap (λ y. f 0 (g y)) same in
    omega arith
change_sum f g (z ∷ zs) (suc i) x e = let rest : _ = change_sum (λ j. f (suc j)) g zs i x e in omega (arith, rest)

begun_more : (f : ℕ → Instance → ℕ) (c : Cell) (i : ℕ) (x : Instance) → instance_of c i ≡ Some x → x.phase ≡ Phase.Waiting →
    running_by_place f (change_instance begun c i) ≡ running_by_place f c + f i (begun x)
begun_more f (Cell.Ran xs) i x e w =
    let moved : _ = change_sum (λ j y. while_running y.phase (f j y)) begun xs i x e in
    let none : while_running x.phase (f i x) ≡ 0 = rw w in
    omega (arith, moved, none)
begun_more f Cell.Undecided i x e w = cc
begun_more f Cell.Blocked i x e w = cc
begun_more f Cell.Skipped i x e w = cc
begun_more f Cell.UpstreamFailed i x e w = cc

none_while : (p : Phase) (n : ℕ) → one_running p ≡ 0 → while_running p n ≡ 0
none_while Phase.Waiting n e = refl
none_while Phase.Running n e = absurd (omega (arith, e))
none_while (Phase.Finished o) n e = refl

ended_less : (f : ℕ → Instance → ℕ) (retries : ℕ) (o : Outcome) (c : Cell) (i : ℕ) (x : Instance) → instance_of c i ≡ Some x → x.phase ≡ Phase.Running →
    running_by_place f (change_instance (ended retries o) c i) + f i x ≡ running_by_place f c
ended_less f retries o (Cell.Ran xs) i x e w =
    let moved : _ = change_sum (λ j y. while_running y.phase (f j y)) (ended retries o) xs i x e in
    let one : while_running x.phase (f i x) ≡ f i x = rw w in
    let none : while_running (ended retries o x).phase (f i (ended retries o x)) ≡ 0 = none_while _ _ (not_running retries o x) in
    omega (arith, moved, one, none)
ended_less f retries o Cell.Undecided i x e w = cc
ended_less f retries o Cell.Blocked i x e w = cc
ended_less f retries o Cell.Skipped i x e w = cc
ended_less f retries o Cell.UpstreamFailed i x e w = cc

fresh_idle : (f : ℕ → Instance → ℕ) (gs : List Given) → sum_by_place (λ i x. while_running x.phase (f i x)) (map fresh gs) ≡ 0
fresh_idle f [] = refl
fresh_idle f (g ∷ gs) = let rest : _ = fresh_idle (λ i. f (suc i)) gs in omega (arith, rest)

new_idle : (f : ℕ → Instance → ℕ) (d : Decision) → running_by_place f (cell_of d) ≡ 0
new_idle f Decision.Wait = refl
new_idle f Decision.Blocked = refl
new_idle f Decision.Skipped = refl
new_idle f Decision.UpstreamFailed = refl
new_idle f (Decision.Instances gs) = fresh_idle f gs

-- ---- the cells of a state

running_put : (f : ℕ → ℕ → ℕ → Instance → ℕ) (s : State) (k t : ℕ) (c : Cell) (ws : map.FinMap name_cmp Entry) → k < length s.runs → t < length (row_in s.runs k) →
    sum_of_running f (record { runs = put_in s.runs k t c; ledger = ws }) + running_by_place (f k t) (cell_at s k t) ≡ sum_of_running f s + running_by_place (f k t) c
unfolding put_in cell_in row_in
running_put f s k t c ws l m =
    let row : Run = slice_index_or s.runs k no_run in
    let runs : _ = sum_by_place_set (λ j (r : Run). sum_by_place (λ u d. running_by_place (f j u) d) r.cells) s.runs k (record { phase = row.phase; cells = slice_set row.cells t c }) no_run l in
    let cells : _ = sum_by_place_set (λ u d. running_by_place (f k u) d) row.cells t c Cell.Undecided m in
    omega (arith, runs, cells)

running_phase : (f : ℕ → ℕ → ℕ → Instance → ℕ) (s : State) (k : ℕ) (p : RunPhase) → sum_of_running f (with_phase s k p) ≡ sum_of_running f s
unfolding phase_put_in
running_phase f s k p = go (decide_in k (length s.runs))
  where
    of_row : ℕ → Run → ℕ
    of_row j r = sum_by_place (λ u d. running_by_place (f j u) d) r.cells

    row : Run
    row = record { phase = p; cells = (slice_index_or s.runs k no_run).cells }

    go : (k < length s.runs) ⊎ (length s.runs ≤ k) → sum_by_place of_row (slice_set s.runs k row) ≡ sum_by_place of_row s.runs
    go (inl l) = let e : _ = sum_by_place_set of_row s.runs k row no_run l in omega (arith, e)
    go (inr m) = ap (sum_by_place of_row) (set_past s.runs k row m)

-- ---- after an event

-- the try of that name, with what it is given
abbrev pub asked_in : Dag → State → JobName → Asked
asked_in dag s n = record { name = n; given = given_in (cell_at s n.run n.task) (place_in dag n) }

-- what the tries that begin by an event add to the sum, and what those that end by it take off
abbrev pub more_running : (Asked → ℕ) → Dag → State → Event → ℕ
more_running h dag s (Event.Begin n) = h (asked_in dag s n)
more_running h dag s _ = 0

abbrev pub fewer_running : (Asked → ℕ) → Dag → State → Event → ℕ
fewer_running h dag s (Event.End n o) = h (asked_in dag s n)
fewer_running h dag s _ = 0

module _ (dag : Dag) (runs : ℕ) (s : State) (shaped : IsShaped dag runs s) (h : Asked → ℕ) where
  abbrev of_try : ℕ → ℕ → ℕ → Instance → ℕ
  of_try k t i x = h (record { name = name_of dag k t i x.attempt; given = x.given })

  running_decided : (k t : ℕ) → IsDecidable dag s k t → running_tries h dag (put s k t (cell_of (decision_in dag s k t))) ≡ running_tries h dag s
  running_decided k t able =
      let r : _ = in_row dag (record { max_active_runs = 0; pools = []; demands = [] }) runs s shaped k t (rw (← shaped.count) (open_run_exists s k able.run_is_open), able.is_task) in
      let e : _ = running_put of_try s k t (cell_of (decision_in dag s k t)) s.ledger r.0 r.1 in
      let was : running_by_place (of_try k t) (cell_at s k t) ≡ 0 = rw able.undecided in
      let now : running_by_place (of_try k t) (cell_of (decision_in dag s k t)) ≡ 0 = new_idle (of_try k t) (decision_in dag s k t) in
      omega (arith, e, was, now)

  there : (n : JobName) (p : Phase) → IsPresent dag s n p → (n.run < length s.runs) × (n.task < length (row_in s.runs n.run))
  there n p at = in_row dag (record { max_active_runs = 0; pools = []; demands = [] }) runs s shaped n.run n.task (shaped.in_range n.run n.task (decided_held s n.run n.task (place_in dag n) at.held at.is_held))

  -- the present try of an instance is the one that its name speaks of
  is_asked : (n : JobName) (p : Phase) (at : IsPresent dag s n p) → of_try n.run n.task (place_in dag n) at.held ≡ h (asked_in dag s n)
  unfolding name_of
  is_asked n p at = ap h (λ j. record { name = record { run = n.run; task = n.task; index = at.is_named j; attempt = at.is_present j }; given = given j })
    where
      given : at.held.given ≡ given_in (cell_at s n.run n.task) (place_in dag n)
      given = sym (ap given_of at.is_held)

  pub running_after : (limits : Limits) (e : Event) → IsEnabled dag limits s e →
      running_tries h dag (after dag s e) + fewer_running h dag s e ≡ running_tries h dag s + more_running h dag s e
  unfolding after
  running_after limits Event.Open able = let e : _ = running_phase of_try s (next_run s) RunPhase.Open in omega (arith, e)
  running_after limits (Event.Settle k t) able = let e : _ = running_decided k t able.0 in omega (arith, e)
  running_after limits (Event.Expand k t) able = let e : _ = running_decided k t able.0 in omega (arith, e)
  running_after limits (Event.Begin n) able =
      let r : _ = there n Phase.Waiting able.0 in
      let e : _ = running_put of_try s n.run n.task (change_instance begun (cell_at s n.run n.task) (place_in dag n)) s.ledger r.0 r.1 in
      let more : _ = begun_more (of_try n.run n.task) (cell_at s n.run n.task) (place_in dag n) able.0.held able.0.is_held able.0.in_phase in
      let asked : _ = is_asked n Phase.Waiting able.0 in
      omega (arith, e, more, asked)
  running_after limits (Event.End n o) able =
      let r : _ = there n Phase.Running able.0 in
      let e : _ = running_put of_try s n.run n.task (change_instance (ended (task_of dag n.task).retries o) (cell_at s n.run n.task) (place_in dag n)) (map.insert s.ledger n (record { given = given_in (cell_at s n.run n.task) (place_in dag n); outcome = o })) r.0 r.1 in
      let less : _ = ended_less (of_try n.run n.task) (task_of dag n.task).retries o (cell_at s n.run n.task) (place_in dag n) able.0.held able.0.is_held able.0.in_phase in
      let asked : _ = is_asked n Phase.Running able.0 in
      omega (arith, e, less, asked)
  running_after limits (Event.Close k) able = let e : _ = running_phase of_try s k RunPhase.Closed in omega (arith, e)
  running_after limits (Event.Tick m) able = omega arith

-- ---- while none runs

sum_part : {A : Type 0} (f : ℕ → A → ℕ) (xs : List A) (i : ℕ) (d : A) → f i d ≡ 0 → sum_by_place f xs ≡ 0 → f i (slice_index_or xs i d) ≡ 0
sum_part f [] i d z e = z
sum_part f (x ∷ xs) zero d z e = omega (arith, e)
sum_part f (x ∷ xs) (suc i) d z e = sum_part (λ j. f (suc j)) xs i d z (omega (arith, e))

abbrev IsIdle : Cell → Type 0
IsIdle c = running_by_place (λ i x. 1) c ≡ 0

cell_idle : (s : State) → running_now s ≡ 0 → (k t : ℕ) → IsIdle (cell_at s k t)
unfolding cell_in
cell_idle s e k t =
    sum_part (λ u c. running_by_place (λ i x. 1) c) (slice_index_or s.runs k no_run).cells t Cell.Undecided refl
    (sum_part (λ j (r : Run). sum_by_place (λ u c. running_by_place (λ i x. 1) c) r.cells) s.runs k no_run refl e)

one_while : (p : Phase) → while_running p 1 ≡ one_running p
one_while Phase.Waiting = refl
one_while Phase.Running = refl
one_while (Phase.Finished o) = refl

counted : (xs : List Instance) → sum_by_place (λ i x. while_running x.phase 1) xs ≡ running_in xs
counted [] = refl
counted (x ∷ xs) = let one : _ = one_while x.phase in let rest : _ = counted xs in omega (arith, one, rest)

instance_idle : (xs : List Instance) (i : ℕ) (x : Instance) → running_in xs ≡ 0 → slice_get xs i ≡ Some x → x.phase ≡ Phase.Running → ⊥
instance_idle [] i x n e r = cc
instance_idle (y ∷ ys) zero x n e r = let same : y ≡ x = cc in let one : one_running y.phase ≡ 1 = rw (same, r) in omega (arith, n, one)
instance_idle (y ∷ ys) (suc i) x n e r = instance_idle ys i x (omega (arith, n)) e r

none_runs : (c : Cell) (i : ℕ) (x : Instance) → IsIdle c → instance_of c i ≡ Some x → x.phase ≡ Phase.Running → ⊥
none_runs (Cell.Ran xs) i x n e r = instance_idle xs i x (sym (counted xs) ∙ n) e r
none_runs Cell.Undecided i x n e r = cc
none_runs Cell.Blocked i x n e r = cc
none_runs Cell.Skipped i x n e r = cc
none_runs Cell.UpstreamFailed i x n e r = cc

if_none : (b : Bool) (x : ℕ) → x ≡ 0 → (if b then x else 0) ≡ 0
if_none true x e = e
if_none false x e = refl

held_none : (limits : Limits) (pool t : ℕ) (c : Cell) → IsIdle c → held_by limits pool t c ≡ 0
held_none limits pool t (Cell.Ran xs) n =
    let idle : running_in xs ≡ 0 = sym (counted xs) ∙ n in
    let none : running_in xs * (demand_of limits t).slots ≡ 0 = rw idle (omega arith) in
    if_none _ _ none
held_none limits pool t Cell.Undecided n = refl
held_none limits pool t Cell.Blocked n = refl
held_none limits pool t Cell.Skipped n = refl
held_none limits pool t Cell.UpstreamFailed n = refl

row_none : (limits : Limits) (pool off : ℕ) (cs : List Cell) → sum_by_place (λ u c. running_by_place (λ i x. 1) c) cs ≡ 0 → held_from limits pool off cs ≡ 0
row_none limits pool off [] e = refl
row_none limits pool off (c ∷ cs) e =
    let a : held_by limits pool off c ≡ 0 = held_none limits pool off c (omega (arith, e)) in
    let b : held_from limits pool (suc off) cs ≡ 0 = row_none limits pool (suc off) cs (omega (arith, e)) in
    omega (arith, a, b)

runs_none : (limits : Limits) (pool : ℕ) (rs : List Run) → sum_by_place (λ j (r : Run). sum_by_place (λ u c. running_by_place (λ i x. 1) c) r.cells) rs ≡ 0 →
    sum_by (λ (r : Run). held_from limits pool 0 r.cells) rs ≡ 0
runs_none limits pool [] e = refl
runs_none limits pool (r ∷ rs) e =
    let a : held_from limits pool 0 r.cells ≡ 0 = row_none limits pool 0 r.cells (omega (arith, e)) in
    let b : _ = runs_none limits pool rs (omega (arith, e)) in
    let sum : _ = sum_by-cons (λ (r : Run). held_from limits pool 0 r.cells) r rs in
    omega (arith, a, b, sum)

le_test : (a b : ℕ) → a ≤ b → nat_le a b ≡ true
le_test a b h = grind (arith, nat_tests)

-- while no try runs, each pool has room for each of its tasks
idle_room : (dag : Dag) (limits : Limits) (s : State) → AreLimits dag limits → running_now s ≡ 0 → (t : ℕ) → has_room_in limits s t ≡ true
idle_room dag limits s fit e t =
    let none : occupied limits s (demand_of limits t).pool ≡ 0 = runs_none limits (demand_of limits t).pool s.runs e in
    let fits : (demand_of limits t).slots ≤ pool_size limits (demand_of limits t).pool = fit.within_pool t in
    le_test _ _ (omega (arith, none, fits))

-- never stuck: while no try runs, a backfill goes on
pub idle_moves : (b : Backfill) → IsReplay b → AreLimits b.dag b.limits → running_now b.state ≡ 0 → GoesOn b
idle_moves b is fit e =
    never_stuck_in_time b is fit
    (λ k t i x h r. none_runs (cell_at b.state k t) i x (cell_idle b.state e k t) h r)
    (idle_room b.dag b.limits b.state fit e)

-- no try runs at the end of an event but one that ran or begins
pub ends_run : (s : State) → running_now s ≡ 0 → (dag : Dag) (n : JobName) → IsPresent dag s n Phase.Running → ⊥
ends_run s e dag n at = none_runs (cell_at s n.run n.task) (place_in dag n) at.held (cell_idle s e n.run n.task) at.is_held at.in_phase

-- ---- the start

idle_row : (f : ℕ → ℕ → Instance → ℕ) (n : ℕ) → sum_by_place (λ t c. running_by_place (f t) c) (undecided_cells_of n) ≡ 0
idle_row f zero = refl
idle_row f (suc n) = let rest : _ = idle_row (λ t. f (suc t)) n in omega (arith, rest)

idle_rows : (f : ℕ → ℕ → ℕ → Instance → ℕ) (tasks n : ℕ) → sum_by_place (λ k (r : Run). sum_by_place (λ t c. running_by_place (f k t) c) r.cells) (empty_runs_of tasks n) ≡ 0
idle_rows f tasks zero = refl
idle_rows f tasks (suc n) =
    let first : _ = idle_row (f 0) tasks in
    let rest : _ = idle_rows (λ k. f (suc k)) tasks n in
    omega (arith, first, rest)

-- at the start no try runs
pub start_idle : (dag : Dag) (runs : ℕ) (f : ℕ → ℕ → ℕ → Instance → ℕ) → sum_of_running f (start dag runs) ≡ 0
start_idle dag runs f = idle_rows f (length dag.tasks) runs
