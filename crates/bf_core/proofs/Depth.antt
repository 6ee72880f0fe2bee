-- A deeper recursion changes nothing, so the value of a task is made of the values of the others.
use Rattle.std.proofs.Common.{◌≡◌, ℕ, suc, zero, ◌<◌, ◌≤◌, Bool, not, ◌&&◌, ◌||◌, List, [], ◌∷◌, length, map, Option, None, Some, is_some, option_and_then, refl, ap, ap₂, ◌∙◌, arith, inl, inr}
use Rattle.std.specs.List.{list_any, list_all, AllByRecursion}
use Rattle.bf_core.specs.Terms.{is_waiting, Dag, Task, task_of, Xval, Verdict, Ledger, TaskValue, pull_of, items, IsOneOf, IsSettledAncestor, Direct, Above, IsSound, add, is_branch_in}
use Rattle.bf_core.specs.Deciding.{Seen, settled, lets_decide_in, branch_is, branch_skips, is_blocked_in, upstream_verdict_of, counts_over, Decision, pull_seen, pulled, instances_of, mapped, after_verdict, past_after, task_verdict_of, decision}
use Rattle.bf_core.specs.Recursion.{value_of, out_to, out, before, decided}

-- two sights of the tasks of a list are the same
abbrev pub SameOn : (ℕ → Seen) → (ℕ → Seen) → List ℕ → Type 0
SameOn a b us = (u : ℕ) → IsOneOf us u → a u ≡ b u

all_cong : (dag : Dag) (task : Task) (a b : ℕ → Seen) (us : List ℕ) → SameOn a b us → list_all (lets_decide_in dag task a) us ≡ list_all (lets_decide_in dag task b) us
all_cong dag task a b [] same = refl
all_cong dag task a b (u ∷ us) same =
    ap₂ (λ x y. (is_some x.value || (not (is_waiting task.rule) && not (is_branch_in (task_of dag u)))) && y) (same u (inl refl)) (all_cong dag task a b us (λ v h. same v (inr h)))

any_cong : (dag : Dag) (p : ℕ → TaskValue → Bool) (a b : ℕ → Seen) (us : List ℕ) → SameOn a b us →
    list_any (λ u. branch_is dag (p u) u (a u).value) us ≡ list_any (λ u. branch_is dag (p u) u (b u).value) us
any_cong dag p a b [] same = refl
any_cong dag p a b (u ∷ us) same =
    ap₂ (λ x y. branch_is dag (p u) u x.value || y) (same u (inl refl)) (any_cong dag p a b us (λ v h. same v (inr h)))

counts_cong : (a b : ℕ → Seen) (us : List ℕ) → SameOn a b us → counts_over a us ≡ counts_over b us
counts_cong a b [] same = refl
counts_cong a b (u ∷ us) same = ap₂ (λ x y. add x.counts y) (same u (inl refl)) (counts_cong a b us (λ v h. same v (inr h)))

pulls_cong : (dag : Dag) (a b : ℕ → Seen) (us : List ℕ) → SameOn a b us → map (pull_seen dag a) us ≡ map (pull_seen dag b) us
pulls_cong dag a b [] same = refl
pulls_cong dag a b (u ∷ us) same = ap₂ (λ x y. option_and_then (pull_of (task_of dag u)) x.value ∷ y) (same u (inl refl)) (pulls_cong dag a b us (λ v h. same v (inr h)))

pub ruling_cong : (dag : Dag) (a b : ℕ → Seen) (t : ℕ) → SameOn a b (task_of dag t).upstreams → upstream_verdict_of dag a t ≡ upstream_verdict_of dag b t
unfolding upstream_verdict_of
ruling_cong dag a b t same =
    rw (
      all_cong dag (task_of dag t) a b (task_of dag t).upstreams same,
      any_cong dag (λ u. branch_skips dag t u) a b (task_of dag t).upstreams same,
      any_cong dag (λ u. is_blocked_in) a b (task_of dag t).upstreams same,
      counts_cong a b (task_of dag t).upstreams same,
    )

source_cong : (dag : Dag) (a b : ℕ → Seen) (pulls : List (Option Xval)) (expand : Option ℕ) → ((s : ℕ) → expand ≡ Some s → a s ≡ b s) →
    instances_of dag a pulls expand ≡ instances_of dag b pulls expand
source_cong dag a b pulls None same = refl
source_cong dag a b pulls (Some s) same =
    ap (λ x. go x.value) (same s refl)
  where
    go : Option TaskValue → Decision
    go o = elim o [ None ↦ Decision.Wait | Some v ↦ mapped pulls (items (task_of dag s) v) ]

after_cong : (dag : Dag) (a b : ℕ → Seen) (t : ℕ) (v : Verdict) → SameOn a b (task_of dag t).pulls → ((s : ℕ) → (task_of dag t).expand ≡ Some s → a s ≡ b s) →
    after_verdict dag a t v ≡ after_verdict dag b t v
after_cong dag a b t Verdict.Run same source =
    ap (λ x. instances_of dag a x (task_of dag t).expand) (pulls_cong dag a b (task_of dag t).pulls same) ∙ source_cong dag a b (pulled dag b t) (task_of dag t).expand source
after_cong dag a b t Verdict.Wait same source = refl
after_cong dag a b t _ same source = refl

-- a decision rests on the upstreams, the pulls, and the source, which is an upstream
pub decision_cong : (dag : Dag) (k : ℕ) (a b : ℕ → Seen) (p : Option TaskValue) (t : ℕ) → IsSound dag →
    SameOn a b (task_of dag t).upstreams → SameOn a b (task_of dag t).pulls → decision dag k a p t ≡ decision dag k b p t
unfolding decision task_verdict_of
decision_cong dag k a b p t sound ups pulls =
    ap (λ v. after_verdict dag a t (past_after (task_of dag t).depends_on_past k p v)) (ruling_cong dag a b t ups)
    ∙ after_cong dag a b t _ pulls (λ s e. ups s (sound.source_is_upstream t s e))

ancestor_below : (dag : Dag) (sound : IsSound dag) (t a : ℕ) → IsSettledAncestor dag t a → sound.rank a < sound.rank t
ancestor_below dag sound t a (Direct w h) = sound.rises t a h
ancestor_below dag sound t a (Above {u = u} w h above) =
    let x : sound.rank a < sound.rank u = ancestor_below dag sound u a above in
    let y : sound.rank u < sound.rank t = sound.rises t u h in
    omega arith

pub pick : (P : ℕ → Type 0) (us : List ℕ) (u : ℕ) → AllByRecursion P us → IsOneOf us u → P u
pick P [] u all h = absurd h
pick P (x ∷ xs) u all (inl e) = rw e all.0
pick P (x ∷ xs) u all (inr h) = pick P xs u all.1 h

pub pull_below : (dag : Dag) (sound : IsSound dag) (t p : ℕ) → IsOneOf (task_of dag t).pulls p → sound.rank p < sound.rank t
pull_below dag sound t p h = ancestor_below dag sound t p (pick (IsSettledAncestor dag t) (task_of dag t).pulls p (sound.pulls_settled t) h)

out_to_deep : (dag : Dag) (sound : IsSound dag) (ledger : Ledger) (past : ℕ → TaskValue) (k d e t : ℕ) → sound.rank t < d → sound.rank t < e →
    out_to dag ledger past k d t ≡ out_to dag ledger past k e t
out_to_deep dag sound ledger past k zero e t l m = absurd (omega (arith, l))
out_to_deep dag sound ledger past k (suc d) zero t l m = absurd (omega (arith, m))
out_to_deep dag sound ledger past k (suc d) (suc e) t l m =
    ap (value_of dag ledger k t)
    (decision_cong dag k _ _ (Some (past t)) t sound
    (λ u h. ap settled (out_to_deep dag sound ledger past k d e u (below u (sound.rises t u h) d l) (below u (sound.rises t u h) e m)))
    (λ p h. ap settled (out_to_deep dag sound ledger past k d e p (below p (pull_below dag sound t p h) d l) (below p (pull_below dag sound t p h) e m))))
  where
    below : (u : ℕ) → sound.rank u < sound.rank t → (n : ℕ) → sound.rank t < suc n → sound.rank u < n
    below u x n y = omega arith

run_is : (dag : Dag) (sound : IsSound dag) (ledger : Ledger) (past : ℕ → TaskValue) (k t : ℕ) →
    out_to dag ledger past k (suc (length dag.tasks)) t
    ≡ value_of dag ledger k t (decision dag k (λ u. settled (out_to dag ledger past k (suc (length dag.tasks)) u)) (Some (past t)) t)
run_is dag sound ledger past k t =
    ap (value_of dag ledger k t)
    (decision_cong dag k _ _ (Some (past t)) t sound
    (λ u h. ap settled (out_to_deep dag sound ledger past k _ _ u (below u (sound.rises t u h)) (more u)))
    (λ p h. ap settled (out_to_deep dag sound ledger past k _ _ p (below p (pull_below dag sound t p h)) (more p))))
  where
    below : (u : ℕ) → sound.rank u < sound.rank t → sound.rank u < length dag.tasks
    below u x = let b : sound.rank t ≤ length dag.tasks = sound.bounded t in omega arith

    more : (u : ℕ) → sound.rank u < suc (length dag.tasks)
    more u = let b : sound.rank u ≤ length dag.tasks = sound.bounded u in omega arith

-- each task's value is made of the others' values
pub out_is : (dag : Dag) → IsSound dag → (ledger : Ledger) (k t : ℕ) → out dag ledger k t ≡ value_of dag ledger k t (decided dag ledger k t)
unfolding out decided before
out_is dag sound ledger zero t = run_is dag sound ledger (λ u. TaskValue.Blocked) zero t
out_is dag sound ledger (suc k) t = run_is dag sound ledger (out dag ledger k) (suc k) t
