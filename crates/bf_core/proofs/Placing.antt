-- Reading and writing the runs of a state.
use Rattle.std.proofs.Common.{◌≡◌, ◌<◌, ℕ, List, [], ◌∷◌, length, slice_index_or, slice_set, slice_get, IsSome, Some, None, zero, suc, refl, ap, ◌∙◌, arith}
use Rattle.bf_core.specs.Events.{change_at, put_in}
use Rattle.bf_try.specs.declared.ledger.Ledger.{Ledger}
use Rattle.bf_core.specs.Terms.{State, Run, Cell}

pub read_row : {A : Type 0} (xs : List A) (i : ℕ) (x d : A) → slice_get xs i ≡ Some x → slice_index_or xs i d ≡ x
read_row [] i x d e = cc
read_row (y ∷ ys) zero x d e = cc
read_row (y ∷ ys) (suc i) x d e = read_row ys i x d e

pub read_none : {A : Type 0} (xs : List A) (i : ℕ) (d : A) → slice_get xs i ≡ None → slice_index_or xs i d ≡ d
read_none [] i d e = refl
read_none (y ∷ ys) zero d e = cc
read_none (y ∷ ys) (suc i) d e = read_none ys i d e

pub any_default : {A : Type 0} (xs : List A) (i : ℕ) (d e : A) → i < length xs → slice_index_or xs i d ≡ slice_index_or xs i e
any_default [] i d e h = absurd (omega (arith, h))
any_default (x ∷ xs) zero d e h = refl
any_default (x ∷ xs) (suc i) d e h = any_default xs i d e (omega arith)

pub with_runs : (a b : List Run) (ledger : Ledger) → a ≡ b → ◌≡◌ {A = State} (record { runs = a; ledger = ledger }) (record { runs = b; ledger = ledger })
with_runs a b ledger e = ap (λ rs. record { runs = rs; ledger = ledger }) e

pub change_set : {A : Type 0} (f : A → A) (xs : List A) (i : ℕ) (y : A) → i < length xs → y ≡ slice_index_or xs i y → slice_set xs i (f y) ≡ change_at f xs i
change_set f [] i y l e = absurd (omega (arith, l))
change_set f (x ∷ xs) zero y l e = ap (λ z. f z ∷ xs) e
change_set f (x ∷ xs) (suc i) y l e = ap (λ zs. x ∷ zs) (change_set f xs i y (omega arith) e)

-- the list with the changed member in its place
pub changed_set : {A : Type 0} (f : A → A) (xs : List A) (i : ℕ) (y z : A) → i < length xs → y ≡ slice_index_or xs i y → z ≡ f y → slice_set xs i z ≡ change_at f xs i
changed_set f xs i y z l e g = ap (λ w. slice_set xs i w) g ∙ change_set f xs i y l e

pub some_below : {A : Type 0} (xs : List A) (i : ℕ) → IsSome (slice_get xs i) → i < length xs
some_below [] i h = cc
some_below (x ∷ xs) zero h = omega arith
some_below (x ∷ xs) (suc i) h = let l : i < length xs = some_below xs i h in omega arith

set_twice : {A : Type 0} (xs : List A) (i : ℕ) (x y : A) → slice_set (slice_set xs i x) i y ≡ slice_set xs i y
set_twice [] i x y = refl
set_twice (z ∷ zs) zero x y = refl
set_twice (z ∷ zs) (suc i) x y = ap (λ ws. z ∷ ws) (set_twice zs i x y)

-- the second of two puts stays
pub put_put : (runs : List Run) (k t : ℕ) (c d : Cell) → put_in (put_in runs k t c) k t d ≡ put_in runs k t d
unfolding put_in
put_put [] k t c d = refl
put_put (r ∷ rs) zero t c d = ap (λ cells. record { phase = r.phase; cells = cells } ∷ rs) (set_twice r.cells t c d)
put_put (r ∷ rs) (suc k) t c d = ap (λ ws. r ∷ ws) (put_put rs k t c d)

pub below_some : {A : Type 0} (xs : List A) (i : ℕ) → i < length xs → IsSome (slice_get xs i)
below_some [] i h = absurd (omega (arith, h))
below_some (x ∷ xs) zero h = refl
below_some (x ∷ xs) (suc i) h = below_some xs i (omega arith)
