-- Reading a state that was changed.
use Rattle.std.proofs.Common.{◌≡◌, ◌≢◌, ◌<◌, ℕ, suc, zero, ◌⊎◌, Bool, true, false, List, [], ◌∷◌, length, Some, refl, sym, ap, ◌∙◌, inl, inr, slice_index_or, slice_set, arith}
use Rattle.std.specs.FinMap as map
use Rattle.std.specs.Ordering.{eq_by_cmp}
use Rattle.std.specs.Cmp.{eq_by_cmp_equiv}
use Rattle.bf_try.proofs.Maps.{same_name}
use Rattle.bf_core.specs.Terms.{name_cmp, JobName, Entry, State, Run, RunPhase, Cell}
use Rattle.bf_value.specs.inner.Names.{name_cmp_total}
use Rattle.bf_core.specs.Events.{no_run, cell_at, put, with_phase, cell_in, put_in, phase_put_in, entry_in}

-- ---- entries

eq_self : (a : JobName) → eq_by_cmp name_cmp a a ≡ true
eq_self a = (eq_by_cmp_equiv name_cmp_total).refl a

-- after an entry is written, it is at its name, and the others are as they were
pub entry_cases : (ledger : map.FinMap name_cmp Entry) (m : JobName) (e : Entry) (n : JobName) →
    ((n ≡ m) × (entry_in (map.insert ledger m e) n ≡ Some e)) ⊎ ((n ≢ m) × (entry_in (map.insert ledger m e) n ≡ entry_in ledger n))
entry_cases ledger m e n = go (eq_by_cmp name_cmp n m) refl
  where
    go : (b : Bool) → eq_by_cmp name_cmp n m ≡ b →
        ((n ≡ m) × (entry_in (map.insert ledger m e) n ≡ Some e)) ⊎ ((n ≢ m) × (entry_in (map.insert ledger m e) n ≡ entry_in ledger n))
    go true h = inl (same_name n m h, map.get-insert name_cmp_total ledger m e n ∙ rw h)
    go false h = inr (λ x. let y : eq_by_cmp name_cmp n m ≡ true = rw x (eq_self m) in cc, map.get-insert name_cmp_total ledger m e n ∙ rw h)

-- ---- cells

pub set_read : {X : Type 0} (xs : List X) (i : ℕ) (y : X) (j : ℕ) (d : X) →
    ((j ≡ i) × (slice_index_or (slice_set xs i y) j d ≡ y)) ⊎ (slice_index_or (slice_set xs i y) j d ≡ slice_index_or xs j d)
set_read [] i y j d = inr refl
set_read (x ∷ xs) zero y zero d = inl (refl, refl)
set_read (x ∷ xs) zero y (suc j) d = inr refl
set_read (x ∷ xs) (suc i) y zero d = inr refl
set_read (x ∷ xs) (suc i) y (suc j) d = elim (set_read xs i y j d) [ inl p ↦ inl (ap suc p.0, p.1) | inr e ↦ inr e ]

-- what is written at i is read there, or nothing is there
set_here : {X : Type 0} (xs : List X) (i : ℕ) (y : X) (d : X) →
    (slice_index_or (slice_set xs i y) i d ≡ y) ⊎ (slice_index_or xs i d ≡ d)
set_here [] i y d = inr refl
set_here (x ∷ xs) zero y d = inl refl
set_here (x ∷ xs) (suc i) y d = set_here xs i y d

-- what is written in range is read there
pub set_there : {X : Type 0} (xs : List X) (i : ℕ) (y : X) (d : X) → i < length xs → slice_index_or (slice_set xs i y) i d ≡ y
set_there [] i y d l = absurd (omega (arith, l))
set_there (x ∷ xs) zero y d l = refl
set_there (x ∷ xs) (suc i) y d l = set_there xs i y d (omega arith)

-- a cell after a put is what was put or what was there
pub put_cases : (s : State) (k t : ℕ) (c : Cell) (j u : ℕ) →
    ((j ≡ k) × (u ≡ t) × (cell_at (put s k t c) j u ≡ c)) ⊎ (cell_at (put s k t c) j u ≡ cell_at s j u)
unfolding cell_in put_in
put_cases s k t c j u = rows (set_read s.runs k changed j no_run)
  where
    row : Run
    row = slice_index_or s.runs k no_run

    changed : Run
    changed = record { phase = row.phase; cells = slice_set row.cells t c }

    rows : ((j ≡ k) × (slice_index_or (slice_set s.runs k changed) j no_run ≡ changed)) ⊎ (slice_index_or (slice_set s.runs k changed) j no_run ≡ slice_index_or s.runs j no_run) →
        ((j ≡ k) × (u ≡ t) × (cell_at (put s k t c) j u ≡ c)) ⊎ (cell_at (put s k t c) j u ≡ cell_at s j u)
    rows (inr e) = inr (ap (λ r. slice_index_or r.cells u Cell.Undecided) e)
    rows (inl p) =
        let e : cell_at (put s k t c) j u ≡ slice_index_or (slice_set row.cells t c) u Cell.Undecided = ap (λ r. slice_index_or r.cells u Cell.Undecided) p.1 in
        elim (set_read row.cells t c u Cell.Undecided) [ inl q ↦ inl (p.0, q.0, e ∙ q.1) | inr q ↦ inr (e ∙ (q ∙ ap (λ x. slice_index_or (slice_index_or s.runs x no_run).cells u Cell.Undecided) (sym p.0))) ]

-- a decided cell is there, and can be put
pub put_here : (s : State) (k t : ℕ) (c : Cell) → cell_at s k t ≢ Cell.Undecided → cell_at (put s k t c) k t ≡ c
unfolding cell_in put_in
put_here s k t c decided = rows (set_here s.runs k changed no_run)
  where
    row : Run
    row = slice_index_or s.runs k no_run

    changed : Run
    changed = record { phase = row.phase; cells = slice_set row.cells t c }

    rows : (slice_index_or (slice_set s.runs k changed) k no_run ≡ changed) ⊎ (row ≡ no_run) → cell_at (put s k t c) k t ≡ c
    rows (inr e) = absurd (decided (ap (λ r. slice_index_or r.cells t Cell.Undecided) e))
    rows (inl p) =
        let e : cell_at (put s k t c) k t ≡ slice_index_or (slice_set row.cells t c) t Cell.Undecided = ap (λ r. slice_index_or r.cells t Cell.Undecided) p in
        elim (set_here row.cells t c Cell.Undecided) [ inl q ↦ e ∙ q | inr q ↦ absurd (decided q) ]

pub with_phase_cell : (s : State) (k : ℕ) (p : RunPhase) (j u : ℕ) → cell_at (with_phase s k p) j u ≡ cell_at s j u
unfolding cell_in phase_put_in
with_phase_cell s k p j u = ap (λ cs. slice_index_or cs u Cell.Undecided) (rows (set_read s.runs k changed j no_run))
  where
    changed : Run
    changed = record { phase = p; cells = (slice_index_or s.runs k no_run).cells }

    rows : ((j ≡ k) × (slice_index_or (slice_set s.runs k changed) j no_run ≡ changed)) ⊎ (slice_index_or (slice_set s.runs k changed) j no_run ≡ slice_index_or s.runs j no_run) →
        (slice_index_or (slice_set s.runs k changed) j no_run).cells ≡ (slice_index_or s.runs j no_run).cells
    rows (inr e) = ap (λ r. r.cells) e
    rows (inl q) = ap (λ r. r.cells) q.1 ∙ ap (λ x. (slice_index_or s.runs x no_run).cells) (sym q.0)
