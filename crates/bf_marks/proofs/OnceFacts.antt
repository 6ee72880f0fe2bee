-- No task stands in two places of the order.
use Rattle.std.proofs.Common.{◌≡◌, ◌≢◌, ℕ, zero, suc, ◌+◌, ◌<◌, ◌≤◌, ◌==◌, Bool, true, false, List, [], ◌∷◌, ◌++◌, Some, length, filter, replicate, slice_get, slice_set, refl, sym, ap, ◌∙◌, subst, arith, ⊎_elim}
use Rattle.std.specs.List.{AllByRecursion, list_all, list_any, range_with_len}
use Rattle.std.proofs.lemmas.Bool.{false≢true, and_parts, cond_both, eqb-true, or_cases}
use Rattle.std.proofs.lemmas.List.{length-replicate}
use Rattle.bf_plan.specs.declared.plan.Dag.{Dag}
use Rattle.bf_plan.specs.Plans.{task_of}
use Rattle.bf_marks.specs.RowOrder.{stands, is_let_go_in, has_no_upstreams_in, order_from, order_of, tasks_where}
use Rattle.bf_marks.specs.inner.Behind.{IsReady}
use Rattle.bf_marks.proofs.BehindFacts.{stands_now, stands_on, all_stand_on, nothing_stands, no_upstreams}

-- ---- lists

weaker : (P Q : ℕ → Type 0) → ((x : ℕ) → P x → Q x) → (xs : List ℕ) → AllByRecursion P xs → AllByRecursion Q xs
weaker P Q so [] all = tt
weaker P Q so (x ∷ xs) all = (so x all.0, weaker P Q so xs all.1)

both : (P Q R : ℕ → Type 0) → ((x : ℕ) → P x → Q x → R x) → (xs : List ℕ) → AllByRecursion P xs → AllByRecursion Q xs → AllByRecursion R xs
both P Q R so [] first second = tt
both P Q R so (x ∷ xs) first second = (so x first.0 second.0, both P Q R so xs first.1 second.1)

joined_all : (P : ℕ → Type 0) (xs ys : List ℕ) → AllByRecursion P xs → AllByRecursion P ys → AllByRecursion P (xs ++ ys)
joined_all P [] ys first second = second
joined_all P (x ∷ xs) ys first second = (first.0, joined_all P xs ys first.1 second)

kept : (p : ℕ → Bool) (P Q : ℕ → Type 0) → ((x : ℕ) → P x → p x ≡ true → Q x) → (xs : List ℕ) → AllByRecursion P xs → AllByRecursion Q (filter p xs)
kept p P Q so [] all = tt
kept p P Q so (x ∷ xs) all =
    cond_both (p x) (x ∷ filter p xs) (filter p xs) (AllByRecursion Q) (λ e. (so x all.0 e, kept p P Q so xs all.1)) (λ _. kept p P Q so xs all.1)

abbrev pub Others : ℕ → List ℕ → Type 0
Others x ys = AllByRecursion (λ y. y ≢ x) ys

-- no number twice
abbrev pub Apart : List ℕ → Type 0
Apart [] = Unit {0}
Apart (x ∷ xs) = Others x xs × Apart xs

apart_joined : (xs ys : List ℕ) → Apart xs → Apart ys → AllByRecursion (λ x. Others x ys) xs → Apart (xs ++ ys)
apart_joined [] ys first second cross = second
apart_joined (x ∷ xs) ys first second cross = (joined_all (λ y. y ≢ x) xs ys first.0 cross.0, apart_joined xs ys first.1 second cross.1)

apart_kept : (p : ℕ → Bool) (xs : List ℕ) → Apart xs → Apart (filter p xs)
apart_kept p [] all = tt
apart_kept p (x ∷ xs) all =
    cond_both (p x) (x ∷ filter p xs) (filter p xs) Apart (λ _. (kept p (λ y. y ≢ x) (λ y. y ≢ x) (λ y other _. other) xs all.0, apart_kept p xs all.1)) (λ _. apart_kept p xs all.1)

from_on : (a b n : ℕ) → a < b → AllByRecursion (λ y. y ≢ a) (range_with_len b n)
from_on a b zero low = tt
from_on a b (suc n) low = ((λ e. omega arith), from_on a (b + 1) n (omega arith))

range_apart : (a n : ℕ) → Apart (range_with_len a n)
range_apart a zero = tt
range_apart a (suc n) = (from_on a (a + 1) n (omega arith), range_apart (a + 1) n)

range_inside : (a n m : ℕ) → a + n ≤ m → AllByRecursion (λ x. x < m) (range_with_len a n)
range_inside a zero m few = tt
range_inside a (suc n) m few = (omega arith, range_inside (a + 1) n m (omega arith))

-- ---- what stands

pub set_stands : (s : List Bool) (t : ℕ) → t < length s → stands (slice_set s t true) t ≡ true
set_stands [] t inside = absurd (omega arith)
set_stands (b ∷ s) zero inside = refl
set_stands (b ∷ s) (suc t) inside = set_stands s t (omega arith)

same_length : (s : List Bool) (t : ℕ) → length (slice_set s t true) ≡ length s
same_length [] t = refl
same_length (b ∷ s) zero = refl
same_length (b ∷ s) (suc t) = ap suc (same_length s t)

waited_for : (f : ℕ → Bool) (us : List ℕ) (t : ℕ) → list_any (λ u. u == t) us ≡ true → list_all f us ≡ true → f t ≡ true
waited_for f [] t any all = absurd (false≢true any)
waited_for f (u ∷ us) t any all =
    let (first, rest) = and_parts (f u) (list_all f us) all in
    ⊎_elim (λ e. subst (λ k. f k ≡ true) (eqb-true u t e) first) (λ e. waited_for f us t e rest) (or_cases (u == t) (list_any (λ v. v == t) us) any)

pub not_standing : (b : Bool) → (b ≡ true → ⊥) → b ≡ false
not_standing true never = absurd (never refl)
not_standing false never = refl

-- ---- the walk

pub record Fits (dag : Dag) (s : List Bool) (left : List ℕ) : Type 0 where
  pub ready : AllByRecursion (IsReady dag s) left
  pub fresh : AllByRecursion (λ t. stands s t ≡ false) left
  pub apart : Apart left
  pub inside : AllByRecursion (λ t. t < length s) left
  pub closed : (t : ℕ) → stands s t ≡ true → IsReady dag s t
  pub size : length s ≡ length dag.tasks

module _ (dag : Dag) (s : List Bool) (t : ℕ) (fresh : stands s t ≡ false) where
  -- who waited for a task that didn't stand was not ready
  unready : (x : ℕ) → is_let_go_in dag (slice_set s t true) t x ≡ true → IsReady dag s x → ⊥
  unready x let_go ready =
      false≢true (sym fresh ∙ waited_for (stands s) (task_of dag x).upstreams t ((and_parts _ _ let_go).0) ready)

pub walks_on : (dag : Dag) (s : List Bool) (t : ℕ) (left : List ℕ) → Fits dag s (t ∷ left) → Fits dag (slice_set s t true) (tasks_where dag (is_let_go_in dag (slice_set s t true) t) ++ left)
walks_on dag s t left fits =
    let more : List Bool = slice_set s t true in
    let p : ℕ → Bool = is_let_go_in dag more t in
    let all : List ℕ = range_with_len 0 (length dag.tasks) in
    let never : (x : ℕ) → p x ≡ true → IsReady dag s x → ⊥ = unready dag s t fits.fresh.0 in
    let in_all : AllByRecursion (λ x. x < length dag.tasks) all = range_inside 0 (length dag.tasks) (length dag.tasks) (omega arith) in
    let size : length more ≡ length dag.tasks = same_length s t ∙ fits.size in
    record {
      ready = joined_all (IsReady dag more) (filter p all) left
          (kept p (λ x. x < length dag.tasks) (IsReady dag more) (λ x _ e. (and_parts _ _ e).1) all in_all)
          (weaker (IsReady dag s) (IsReady dag more) (λ x is. all_stand_on s t (task_of dag x).upstreams is) left fits.ready.1);
      fresh = joined_all (λ x. stands more x ≡ false) (filter p all) left
          (kept p (λ x. x < length dag.tasks) (λ x. stands more x ≡ false)
          (λ x _ e. not_standing (stands more x) (λ now. ⊎_elim (λ same. never x e (subst (IsReady dag s) (sym same) fits.ready.0)) (λ before. never x e (fits.closed x before)) (stands_now s t x now))) all in_all)
          (both (λ x. stands s x ≡ false) (λ x. x ≢ t) (λ x. stands more x ≡ false)
          (λ x is other. not_standing (stands more x) (λ now. ⊎_elim (λ same. other same) (λ before. false≢true (sym is ∙ before)) (stands_now s t x now))) left fits.fresh.1 fits.apart.0);
      apart = apart_joined (filter p all) left (apart_kept p all (range_apart 0 (length dag.tasks))) fits.apart.1
          (kept p (λ x. x < length dag.tasks) (λ x. Others x left) (λ x _ e. weaker (IsReady dag s) (λ y. y ≢ x) (λ y is same. never x e (subst (IsReady dag s) same is)) left fits.ready.1) all in_all);
      inside = joined_all (λ x. x < length more) (filter p all) left
          (kept p (λ x. x < length dag.tasks) (λ x. x < length more) (λ x low _. omega (arith, low, size)) all in_all)
          (weaker (λ x. x < length s) (λ x. x < length more) (λ x low. omega (arith, low, same_length s t)) left fits.inside.1);
      closed = λ x now. ⊎_elim (λ same. subst (IsReady dag more) (sym same) (all_stand_on s t (task_of dag t).upstreams fits.ready.0)) (λ before. all_stand_on s t (task_of dag x).upstreams (fits.closed x before)) (stands_now s t x now);
      size = size;
    }

-- each task of these stands from its place on, and not before
abbrev Once : List Bool → List ℕ → Type 0
Once s [] = Unit {0}
Once s (t ∷ ts) = (stands s t ≡ false) × (t < length s) × Once (slice_set s t true) ts

once_from : (dag : Dag) (n : ℕ) (s : List Bool) (left : List ℕ) → Fits dag s left → Once s (order_from dag n s left)
once_from dag zero s left fits = tt
once_from dag (suc n) s [] fits = tt
once_from dag (suc n) s (t ∷ left) fits = (fits.fresh.0, fits.inside.0, once_from dag n (slice_set s t true) _ (walks_on dag s t left fits))

later : (s : List Bool) (ts : List ℕ) → Once s ts → (j u : ℕ) → slice_get ts j ≡ Some u → stands s u ≡ false
later s [] once j u is = cc
later s (t ∷ ts) once zero u is = let same : t ≡ u = cc in subst (λ k. stands s k ≡ false) same once.0
later s (t ∷ ts) once (suc j) u is =
    not_standing (stands s u) (λ now. false≢true (sym (later (slice_set s t true) ts once.2 j u is) ∙ stands_on s t u now))

no_second : (s : List Bool) (t : ℕ) (ts : List ℕ) → Once s (t ∷ ts) → (j u : ℕ) → t ≡ u → slice_get ts j ≡ Some u → ⊥
no_second s t ts once j u same is =
    false≢true (sym (later (slice_set s t true) ts once.2 j u is) ∙ subst (λ k. stands (slice_set s t true) k ≡ true) same (set_stands s t once.1))

one_place : (s : List Bool) (ts : List ℕ) → Once s ts → (i j u : ℕ) → slice_get ts i ≡ Some u → slice_get ts j ≡ Some u → i ≡ j
one_place s [] once i j u first second = cc
one_place s (t ∷ ts) once zero zero u first second = refl
one_place s (t ∷ ts) once zero (suc j) u first second = let same : t ≡ u = cc in absurd (no_second s t ts once j u same second)
one_place s (t ∷ ts) once (suc i) zero u first second = let same : t ≡ u = cc in absurd (no_second s t ts once i u same first)
one_place s (t ∷ ts) once (suc i) (suc j) u first second = ap suc (one_place (slice_set s t true) ts once.2 i j u first second)

pub begins : (dag : Dag) → Fits dag (replicate (length dag.tasks) false) (tasks_where dag (has_no_upstreams_in dag))
begins dag =
    let n : ℕ = length dag.tasks in
    let none : List Bool = replicate n false in
    let all : List ℕ = range_with_len 0 n in
    let in_all : AllByRecursion (λ x. x < n) all = range_inside 0 n n (omega arith) in
    record {
      ready = kept (has_no_upstreams_in dag) (λ x. x < n) (IsReady dag none) (λ x _ e. no_upstreams (stands none) (task_of dag x).upstreams e) all in_all;
      fresh = kept (has_no_upstreams_in dag) (λ x. x < n) (λ x. stands none x ≡ false) (λ x _ _. nothing_stands n x) all in_all;
      apart = apart_kept (has_no_upstreams_in dag) all (range_apart 0 n);
      inside = kept (has_no_upstreams_in dag) (λ x. x < n) (λ x. x < length none) (λ x low _. omega (arith, low, length-replicate n false)) all in_all;
      closed = λ x now. absurd (false≢true (sym (nothing_stands n x) ∙ now));
      size = length-replicate n false;
    }

pub order_once : (dag : Dag) (i j t : ℕ) → slice_get (order_of dag) i ≡ Some t → slice_get (order_of dag) j ≡ Some t → i ≡ j
unfolding order_of
order_once dag i j t first second =
    one_place (replicate (length dag.tasks) false) _ (once_from dag (length dag.tasks) (replicate (length dag.tasks) false) (tasks_where dag (has_no_upstreams_in dag)) (begins dag)) i j t first second
