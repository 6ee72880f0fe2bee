-- What may come now, by tests.
use Rattle.std.proofs.Common.{◌≡◌, ◌<◌, ◌&&◌, ℕ, zero, suc, Bool, true, false, List, [], ◌∷◌, length, Option, None, Some, IfSome, IfNone, is_some, slice_get, refl, arith}
use Rattle.std.specs.List.{list_all}
use Rattle.bf_core.specs.Terms.{Dag, State, Run, RunPhase}
use Rattle.bf_core.specs.Events.{value_in, is_open, phase_of, AllSettled}
use Rattle.bf_core.specs.inner.Checks.{HasRows}
use Rattle.bf_core.proofs.Known.{not_closable}
use Rattle.bf_core.proofs.Shape.{open_run_exists}

-- an answer that is there exactly where a fact holds tests it
pub some_test : {X : Type 0} (P : X → Type 0) (Q : Type 0) (o : Option X) → IfSome o (λ x. P x × Q) → IfNone o (¬ Q) → (is_some o ≡ true → Q) × (Q → is_some o ≡ true)
some_test P Q (Some x) some none = (λ e. some.1, λ q. refl)
some_test P Q None some none = (λ e. cc, λ q. absurd (none q))

is_there : {A : Type 0} (xs : List A) (k : ℕ) → k < length xs → None ≡ slice_get xs k → ⊥
is_there [] k l e = omega (arith, l)
is_there (x ∷ xs) zero l e = cc
is_there (x ∷ xs) (suc k) l e = is_there xs k (omega arith) e

-- an open run is there
pub open_there : (s : State) (k : ℕ) → phase_of s k ≡ RunPhase.Open → None ≡ slice_get s.runs k → ⊥
open_there s k open_run e = is_there s.runs k (open_run_exists s k open_run) e

pub closable_back : (dag : Dag) (s : State) → HasRows dag s → (k : ℕ) (row : Run) → slice_get s.runs k ≡ Some row → (phase_of s k ≡ RunPhase.Open) × AllSettled dag s k →
    (is_open row.phase && list_all (λ c. is_some (value_in c)) row.cells) ≡ true
closable_back dag s rows k row at able = go _ refl
  where
    go : (b : Bool) → (is_open row.phase && list_all (λ c. is_some (value_in c)) row.cells) ≡ b → (is_open row.phase && list_all (λ c. is_some (value_in c)) row.cells) ≡ true
    go true e = e
    go false e = absurd ((not_closable dag s rows k row at e).1 able)
