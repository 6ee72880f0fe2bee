-- The instance that a name speaks of, and the runs that may be closed.
use Rattle.std.proofs.Common.{◌≡◌, ◌≢◌, ◌<◌, ℕ, zero, suc, Bool, true, false, ◌&&◌, List, [], ◌∷◌, length, None, Some, is_some, slice_get, slice_index_or, refl, sym, ap, ◌∙◌, arith}
use Rattle.std.specs.List.{list_all}
use Rattle.std.proofs.lemmas.Bool.{and_parts}
use Rattle.bf_core.specs.Terms.{Dag, State, Run, RunPhase, Cell, Instance, Phase, JobName}
use Rattle.bf_core.specs.Events.{cell_in, cell_at, row_of, phase_in, phase_of, no_run, instance_of, place_in, value_in, is_open, IsPresent, AllSettled}
use Rattle.bf_core.specs.Cores.{IsThere, IsKnown}
use Rattle.bf_core.specs.inner.Checks.{HasRows, IsKnownAs}
use Rattle.bf_core.proofs.Placing.{read_row, some_below}

-- ---- in range

in_list : {A : Type 0} (xs : List A) (i : ℕ) (d : A) → slice_index_or xs i d ≢ d → i < length xs
in_list [] i d n = absurd (n refl)
in_list (x ∷ xs) zero d n = omega arith
in_list (x ∷ xs) (suc i) d n = let l : i < length xs = in_list xs i d n in omega arith

-- what is decided is there
pub decided_there : (dag : Dag) (s : State) → HasRows dag s → (k t : ℕ) → cell_at s k t ≢ Cell.Undecided → IsThere dag s k t
unfolding cell_in
decided_there dag s rows k t n =
    let run : k < length s.runs = in_list s.runs k no_run (λ e. n (ap (λ (r : Run). slice_index_or r.cells t Cell.Undecided) e)) in
    let task : t < length (row_of s.runs k).cells = in_list (row_of s.runs k).cells t Cell.Undecided n in
    (run, rw (← rows k run) task)

pub has_instance : (c : Cell) (i : ℕ) (x : Instance) → instance_of c i ≡ Some x → c ≢ Cell.Undecided
has_instance c i x e f = let g : None ≡ Some x = sym (ap (λ d. instance_of d i) f) ∙ e in cc

-- ---- names

pub present_from : (dag : Dag) (s : State) (n : JobName) (x : Instance) (p : Phase) → IsKnownAs dag s n x → x.attempt ≡ n.attempt → x.phase ≡ p → IsPresent dag s n p
present_from dag s n x p known same phase = record { held = x; is_held = known.is_there.is_held; is_named = known.is_there.is_named; is_present = same; in_phase = phase }

pub known_from : (dag : Dag) (s : State) → HasRows dag s → (n : JobName) (x : Instance) → IsKnownAs dag s n x → IsKnown dag s n
known_from dag s rows n x known = record {
  there = decided_there dag s rows n.run n.task (has_instance _ (place_in dag n) x known.is_there.is_held);
  held = x;
  is_held = known.is_there.is_held;
  is_named = known.is_there.is_named;
  from = known.from;
  to = known.to;
}

pub known_back : (dag : Dag) (s : State) (n : JobName) → (k : IsKnown dag s n) → IsKnownAs dag s n k.held
known_back dag s n k = record { is_there = record { is_held = k.is_held; is_named = k.is_named }; from = k.from; to = k.to }

-- what is present is what is held
pub present_back : (dag : Dag) (s : State) (n : JobName) (x : Instance) (p : Phase) → IsKnownAs dag s n x → IsPresent dag s n p → (x.attempt ≡ n.attempt) × (x.phase ≡ p)
present_back dag s n x p known present =
    let held : Some x ≡ Some present.held = sym known.is_there.is_held ∙ present.is_held in
    let same : x ≡ present.held = cc in
    (ap (λ (y : Instance). y.attempt) same ∙ present.is_present, ap (λ (y : Instance). y.phase) same ∙ present.in_phase)

-- ---- runs that may be closed

all_at : (p : Cell → Bool) (cells : List Cell) (t : ℕ) → list_all p cells ≡ true → t < length cells → p (slice_index_or cells t Cell.Undecided) ≡ true
all_at p [] t e l = absurd (omega (arith, l))
all_at p (c ∷ cs) zero e l = (and_parts (p c) _ e).0
all_at p (c ∷ cs) (suc t) e l = all_at p cs t (and_parts (p c) _ e).1 (omega arith)

at_all : (p : Cell → Bool) (cells : List Cell) → ((t : ℕ) → t < length cells → p (slice_index_or cells t Cell.Undecided) ≡ true) → list_all p cells ≡ true
at_all p [] h = refl
at_all p (c ∷ cs) h = rw (h 0 (omega arith), at_all p cs (λ t l. h (suc t) (omega arith)))

pub settled_from : (dag : Dag) (s : State) → HasRows dag s → (k : ℕ) (row : Run) → slice_get s.runs k ≡ Some row → list_all (λ c. is_some (value_in c)) row.cells ≡ true → AllSettled dag s k
unfolding cell_in
settled_from dag s rows k row at all t l =
    let same : row_of s.runs k ≡ row = read_row s.runs k row no_run at in
    let there : k < length s.runs = some_below s.runs k (rw at) in
    let long : length row.cells ≡ length dag.tasks = ap (λ (r : Run). length r.cells) (sym same) ∙ rows k there in
    ap (λ (r : Run). is_some (value_in (slice_index_or r.cells t Cell.Undecided))) same ∙ all_at (λ c. is_some (value_in c)) row.cells t all (rw long l)

pub settled_back : (dag : Dag) (s : State) → HasRows dag s → (k : ℕ) (row : Run) → slice_get s.runs k ≡ Some row → AllSettled dag s k → list_all (λ c. is_some (value_in c)) row.cells ≡ true
unfolding cell_in
settled_back dag s rows k row at all =
    let same : row_of s.runs k ≡ row = read_row s.runs k row no_run at in
    let there : k < length s.runs = some_below s.runs k (rw at) in
    let long : length row.cells ≡ length dag.tasks = ap (λ (r : Run). length r.cells) (sym same) ∙ rows k there in
    at_all (λ c. is_some (value_in c)) row.cells (λ t l. ap (λ (r : Run). is_some (value_in (slice_index_or r.cells t Cell.Undecided))) (sym same) ∙ all t (rw (← long) l))

pub phase_read : (runs : List Run) (k : ℕ) (row : Run) → slice_get runs k ≡ Some row → phase_in runs k ≡ row.phase
unfolding phase_in
phase_read runs k row at = ap (λ (r : Run). r.phase) (read_row runs k row no_run at)

is_open_is : (p : RunPhase) → is_open p ≡ true → p ≡ RunPhase.Open
is_open_is RunPhase.Open e = refl
is_open_is RunPhase.Unopened e = cc
is_open_is RunPhase.Closed e = cc

-- a row that may be closed, and one that may not
pub closable_from : (dag : Dag) (s : State) → HasRows dag s → (k : ℕ) (row : Run) → slice_get s.runs k ≡ Some row → (is_open row.phase && list_all (λ c. is_some (value_in c)) row.cells) ≡ true →
    (k < length s.runs) × (phase_of s k ≡ RunPhase.Open) × AllSettled dag s k
closable_from dag s rows k row at e = (
  some_below s.runs k (rw at),
  phase_read s.runs k row at ∙ is_open_is row.phase (and_parts _ _ e).0,
  settled_from dag s rows k row at (and_parts (is_open row.phase) _ e).1,
)

pub not_closable : (dag : Dag) (s : State) → HasRows dag s → (k : ℕ) (row : Run) → slice_get s.runs k ≡ Some row → (is_open row.phase && list_all (λ c. is_some (value_in c)) row.cells) ≡ false →
    (k < length s.runs) × ¬ ((phase_of s k ≡ RunPhase.Open) × AllSettled dag s k)
not_closable dag s rows k row at e = (
  some_below s.runs k (rw at),
  λ p.
      let open_row : is_open row.phase ≡ true = ap is_open (sym (phase_read s.runs k row at) ∙ p.0) in
      let all : list_all (λ c. is_some (value_in c)) row.cells ≡ true = settled_back dag s rows k row at p.1 in
      let f : true ≡ false = sym (rw (open_row, all)) ∙ e in
      cc,
)

-- a cell is there by its row exactly where run and task are
pub row_there : (dag : Dag) (s : State) → HasRows dag s → (k t : ℕ) → (k < length s.runs) × (t < length (row_of s.runs k).cells) → IsThere dag s k t
row_there dag s rows k t at = (at.0, rw (← rows k at.0) at.1)

pub there_row : (dag : Dag) (s : State) → HasRows dag s → (k t : ℕ) → IsThere dag s k t → (k < length s.runs) × (t < length (row_of s.runs k).cells)
there_row dag s rows k t at = (at.0, rw (rows k at.0) at.1)
