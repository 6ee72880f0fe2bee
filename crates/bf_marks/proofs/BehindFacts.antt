-- Each task of the order stands behind its upstreams.
use Rattle.std.proofs.Common.{◌≡◌, ℕ, zero, suc, ◌<◌, ◌⊎◌, inl, inr, ◌==◌, Bool, true, false, List, [], ◌∷◌, ◌++◌, Some, length, filter, replicate, slice_get, slice_set, refl, sym, ap, ◌∙◌, subst, arith}
use Rattle.std.specs.List.{AllByRecursion, list_all}
use Rattle.std.proofs.lemmas.Bool.{false≢true, and_parts, and_from, cond_both, eqb-true}
use Rattle.bf_plan.specs.declared.plan.Dag.{Dag}
use Rattle.bf_plan.specs.Plans.{task_of}
use Rattle.bf_plan.specs.Sound.{IsOneOf}
use Rattle.bf_marks.specs.RowOrder.{stands, is_let_go_in, has_no_upstreams_in, order_from, order_of, tasks_where}
use Rattle.bf_marks.specs.inner.Behind.{IsReady, AreBehind}

-- ---- what stands

pub stands_now : (s : List Bool) (task other : ℕ) → stands (slice_set s task true) other ≡ true → (other ≡ task) ⊎ (stands s other ≡ true)
stands_now [] task other e = inr e
stands_now (b ∷ s) zero zero e = inl refl
stands_now (b ∷ s) zero (suc other) e = inr e
stands_now (b ∷ s) (suc task) zero e = inr e
stands_now (b ∷ s) (suc task) (suc other) e = elim (stands_now s task other e) [ inl same ↦ inl (ap suc same) | inr before ↦ inr before ]

pub stands_on : (s : List Bool) (task other : ℕ) → stands s other ≡ true → stands (slice_set s task true) other ≡ true
stands_on [] task other e = e
stands_on (b ∷ s) zero zero e = refl
stands_on (b ∷ s) zero (suc other) e = e
stands_on (b ∷ s) (suc task) zero e = e
stands_on (b ∷ s) (suc task) (suc other) e = stands_on s task other e

pub all_stand_on : (s : List Bool) (task : ℕ) (us : List ℕ) → list_all (stands s) us ≡ true → list_all (stands (slice_set s task true)) us ≡ true
all_stand_on s task [] e = refl
all_stand_on s task (u ∷ us) e =
    let (first, rest) = and_parts (stands s u) (list_all (stands s) us) e in
    and_from _ _ (stands_on s task u first) (all_stand_on s task us rest)

pub nothing_stands : (n other : ℕ) → stands (replicate n false) other ≡ false
nothing_stands zero other = refl
nothing_stands (suc n) zero = refl
nothing_stands (suc n) (suc other) = nothing_stands n other

pub one_of_all : (f : ℕ → Bool) (us : List ℕ) (u : ℕ) → list_all f us ≡ true → IsOneOf us u → f u ≡ true
one_of_all f [] u e one = absurd one
one_of_all f (x ∷ us) u e (inl same) = subst (λ k. f k ≡ true) (sym same) ((and_parts (f x) (list_all f us) e).0)
one_of_all f (x ∷ us) u e (inr other) = one_of_all f us u ((and_parts (f x) (list_all f us) e).1) other

-- ---- who is ready

AreReady : Dag → List Bool → List ℕ → Type 0
AreReady dag s tasks = AllByRecursion (IsReady dag s) tasks

both_ready : (dag : Dag) (s : List Bool) (xs ys : List ℕ) → AreReady dag s xs → AreReady dag s ys → AreReady dag s (xs ++ ys)
unfolding AreReady
both_ready dag s [] ys first second = second
both_ready dag s (x ∷ xs) ys first second = (first.0, both_ready dag s xs ys first.1 second)

ready_on : (dag : Dag) (s : List Bool) (task : ℕ) (xs : List ℕ) → AreReady dag s xs → AreReady dag (slice_set s task true) xs
unfolding AreReady
ready_on dag s task [] all = tt
ready_on dag s task (x ∷ xs) all = (all_stand_on s task (task_of dag x).upstreams all.0, ready_on dag s task xs all.1)

let_go_ready : (dag : Dag) (s : List Bool) (task : ℕ) (xs : List ℕ) → AreReady dag s (filter (is_let_go_in dag s task) xs)
unfolding AreReady
let_go_ready dag s task [] = tt
let_go_ready dag s task (x ∷ xs) =
    cond_both (is_let_go_in dag s task x) (x ∷ filter (is_let_go_in dag s task) xs) (filter (is_let_go_in dag s task) xs) (AreReady dag s)
    (λ kept. ((and_parts _ _ kept).1, let_go_ready dag s task xs)) (λ _. let_go_ready dag s task xs)

pub no_upstreams : (f : ℕ → Bool) (us : List ℕ) → (length us == 0) ≡ true → list_all f us ≡ true
no_upstreams f [] e = refl
no_upstreams f (u ∷ us) e = let none : length (u ∷ us) ≡ 0 = eqb-true (length (u ∷ us)) 0 e in absurd (omega arith)

sources_ready : (dag : Dag) (s : List Bool) (xs : List ℕ) → AreReady dag s (filter (has_no_upstreams_in dag) xs)
unfolding AreReady
sources_ready dag s [] = tt
sources_ready dag s (x ∷ xs) =
    cond_both (has_no_upstreams_in dag x) (x ∷ filter (has_no_upstreams_in dag) xs) (filter (has_no_upstreams_in dag) xs) (AreReady dag s)
    (λ kept. (no_upstreams (stands s) (task_of dag x).upstreams kept, sources_ready dag s xs)) (λ _. sources_ready dag s xs)

-- ---- the order

from_behind : (dag : Dag) (n : ℕ) (s : List Bool) (left : List ℕ) → AreReady dag s left → AreBehind dag s (order_from dag n s left)
unfolding AreReady
from_behind dag zero s left ready = tt
from_behind dag (suc n) s [] ready = tt
from_behind dag (suc n) s (task ∷ left) ready =
    let more = slice_set s task true in
    (ready.0, from_behind dag n more (tasks_where dag (is_let_go_in dag more task) ++ left) (both_ready dag more _ left (let_go_ready dag more task _) (ready_on dag s task left ready.1)))

before : (dag : Dag) (s : List Bool) (tasks : List ℕ) → AreBehind dag s tasks → (i t u : ℕ) → slice_get tasks i ≡ Some t → IsOneOf (task_of dag t).upstreams u → (stands s u ≡ true) ⊎ ((j : ℕ) × (j < i) × (slice_get tasks j ≡ Some u))
before dag s [] behind i t u is up = cc
before dag s (x ∷ xs) behind zero t u is up =
    let same : x ≡ t = cc in
    inl (one_of_all (stands s) (task_of dag x).upstreams u behind.0 (subst (λ k. IsOneOf (task_of dag k).upstreams u) (sym same) up))
before dag s (x ∷ xs) behind (suc i) t u is up =
    elim (before dag (slice_set s x true) xs behind.1 i t u is up) [
      | inl e ↦ elim (stands_now s x u e) [ inl same ↦ inr (0, omega arith, ap Some (sym same)) | inr earlier ↦ inl earlier ]
      | inr w ↦ inr (suc w.0, omega (arith, w.1), w.2)
    ]

pub order_behind : (dag : Dag) (i t u : ℕ) → slice_get (order_of dag) i ≡ Some t → IsOneOf (task_of dag t).upstreams u → (j : ℕ) × (j < i) × (slice_get (order_of dag) j ≡ Some u)
unfolding order_of
order_behind dag i t u is up =
    let none : List Bool = replicate (length dag.tasks) false in
    let behind = from_behind dag (length dag.tasks) none (tasks_where dag (has_no_upstreams_in dag)) (sources_ready dag none _) in
    elim (before dag none _ behind i t u is up) [ inl e ↦ absurd (false≢true (sym (nothing_stands (length dag.tasks) u) ∙ e)) | inr w ↦ w ]
