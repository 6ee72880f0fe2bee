-- Each task stands in the order.
use Rattle.std.proofs.Common.{◌≡◌, ℕ, zero, suc, ◌+◌, ◌<◌, ◌≤◌, ◌⊎◌, inl, inr, ◌==◌, ◌&&◌, ◌||◌, Bool, true, false, List, [], ◌∷◌, ◌++◌, Some, length, filter, replicate, slice_get, slice_set, refl, sym, ap, ◌∙◌, subst, arith, ⊎_elim}
use Rattle.std.specs.List.{list_all, list_any, range_with_len}
use Rattle.std.proofs.lemmas.Bool.{false≢true, and_from, cond-true, cases_eq, cond_both, eq-eqb}
use Rattle.bf_plan.specs.declared.plan.Dag.{Dag}
use Rattle.bf_plan.specs.Plans.{task_of}
use Rattle.bf_plan.specs.Sound.{IsOneOf, IsSound}
use Rattle.bf_marks.specs.RowOrder.{stands, is_let_go_in, has_no_upstreams_in, order_from, order_of, tasks_where}
use Rattle.bf_marks.proofs.BehindFacts.{stands_now, stands_on, nothing_stands, one_of_all}
use Rattle.bf_marks.proofs.OnceFacts.{Fits, begins, walks_on, set_stands, not_standing}

-- ---- lists

-- it is one of these
abbrev In : ℕ → List ℕ → Type 0
In x [] = ⊥
In x (y ∷ ys) = (x ≡ y) ⊎ In x ys

in_front : (x : ℕ) (xs ys : List ℕ) → In x xs → In x (xs ++ ys)
in_front x [] ys there = absurd there
in_front x (y ∷ xs) ys there = elim there [ inl same ↦ inl same | inr further ↦ inr (in_front x xs ys further) ]

in_back : (x : ℕ) (xs ys : List ℕ) → In x ys → In x (xs ++ ys)
in_back x [] ys there = there
in_back x (y ∷ xs) ys there = inr (in_back x xs ys there)

in_kept : (p : ℕ → Bool) (x : ℕ) (xs : List ℕ) → p x ≡ true → In x xs → In x (filter p xs)
in_kept p x [] e there = absurd there
in_kept p x (y ∷ ys) e (inl same) = subst (In x) (sym (cond-true _ _ _ (subst (λ k. p k ≡ true) same e))) (inl same)
in_kept p x (y ∷ ys) e (inr further) =
    cond_both (p y) (y ∷ filter p ys) (filter p ys) (In x) (λ _. inr (in_kept p x ys e further)) (λ _. in_kept p x ys e further)

in_range : (a n x : ℕ) → a ≤ x → x < a + n → In x (range_with_len a n)
in_range a zero x low high = absurd (omega arith)
in_range a (suc n) x low high = ⊎_elim (λ same. inl same) (λ other. inr (in_range (a + 1) n x (omega arith) (omega arith))) (cases_eq x a)

-- one of these doesn't pass
abbrev Failing : (ℕ → Bool) → List ℕ → Type 0
Failing f us = (u : ℕ) × IsOneOf us u × (f u ≡ false)

fails_by : (f : ℕ → Bool) (u : ℕ) (us : List ℕ) (b : Bool) → f u ≡ b → (list_all f us ≡ false → Failing f us) → list_all f (u ∷ us) ≡ false → Failing f (u ∷ us)
fails_by f u us true is behind e = let (v, there, fails) = behind (sym (ap (λ b. b && list_all f us) is) ∙ e) in (v, inr there, fails)
fails_by f u us false is behind e = (u, inl refl, is)

some_fails : (f : ℕ → Bool) (us : List ℕ) → list_all f us ≡ false → Failing f us
some_fails f [] e = absurd (false≢true (sym e))
some_fails f (u ∷ us) e = fails_by f u us (f u) refl (some_fails f us) e

or_true : (b : Bool) → (b || true) ≡ true
or_true true = refl
or_true false = refl

any_of : (f : ℕ → Bool) (us : List ℕ) (u : ℕ) → IsOneOf us u → f u ≡ true → list_any f us ≡ true
any_of f [] u there e = absurd there
any_of f (x ∷ us) u (inl same) e = ap (λ b. b || list_any f us) (subst (λ k. f k ≡ true) same e)
any_of f (x ∷ us) u (inr there) e = ap (λ b. f x || b) (any_of f us u there e) ∙ or_true (f x)

-- ---- how many don't stand

lacking : List Bool → ℕ
lacking [] = 0
lacking (true ∷ s) = lacking s
lacking (false ∷ s) = suc (lacking s)

one_lacks : (s : List Bool) (x : ℕ) → x < length s → stands s x ≡ false → 0 < lacking s
unfolding lacking
one_lacks [] x inside e = absurd (omega arith)
one_lacks (true ∷ s) zero inside e = absurd (false≢true (sym e))
one_lacks (false ∷ s) zero inside e = omega arith
one_lacks (true ∷ s) (suc x) inside e = one_lacks s x (omega arith) e
one_lacks (false ∷ s) (suc x) inside e = omega arith

fewer_lack : (s : List Bool) (t : ℕ) → t < length s → stands s t ≡ false → suc (lacking (slice_set s t true)) ≡ lacking s
unfolding lacking
fewer_lack [] t inside e = absurd (omega arith)
fewer_lack (true ∷ s) zero inside e = absurd (false≢true (sym e))
fewer_lack (false ∷ s) zero inside e = refl
fewer_lack (true ∷ s) (suc t) inside e = fewer_lack s t (omega arith) e
fewer_lack (false ∷ s) (suc t) inside e = ap suc (fewer_lack s t (omega arith) e)

all_lack : (n : ℕ) → lacking (replicate n false) ≡ n
unfolding lacking
all_lack zero = refl
all_lack (suc n) = ap suc (all_lack n)

-- ---- the walk

-- who doesn't stand is left, or waits
abbrev Open : Dag → List Bool → List ℕ → Type 0
Open dag s left = (x : ℕ) → x < length dag.tasks → stands s x ≡ false → In x left ⊎ (list_all (stands s) (task_of dag x).upstreams ≡ false)

source_or : (n : ℕ) (us : List ℕ) → ((length us == 0) ≡ true) ⊎ (list_all (stands (replicate n false)) us ≡ false)
source_or n [] = inl refl
source_or n (u ∷ us) = inr (ap (λ b. b && list_all (stands (replicate n false)) us) (nothing_stands n u))

open_first : (dag : Dag) → Open dag (replicate (length dag.tasks) false) (tasks_where dag (has_no_upstreams_in dag))
open_first dag x low not_yet =
    elim (source_or (length dag.tasks) (task_of dag x).upstreams) [
      | inl e ↦ inl (in_kept (has_no_upstreams_in dag) x (range_with_len 0 (length dag.tasks)) e (in_range 0 (length dag.tasks) x (omega arith) (omega arith)))
      | inr e ↦ inr e
    ]

newly : (s : List Bool) (t : ℕ) (us : List ℕ) → list_all (stands s) us ≡ false → list_all (stands (slice_set s t true)) us ≡ true → list_any (λ u. u == t) us ≡ true
newly s t us before now =
    let (u, there, fails) = some_fails (stands s) us before in
    let same : u ≡ t = elim (stands_now s t u (one_of_all (stands (slice_set s t true)) us u now there)) [ inl e ↦ e | inr e ↦ absurd (false≢true (sym fails ∙ e)) ] in
    any_of (λ v. v == t) us u there (eq-eqb u t same)

by_ready : (dag : Dag) (s : List Bool) (t x : ℕ) (left : List ℕ) (b : Bool) → x < length dag.tasks → list_all (stands s) (task_of dag x).upstreams ≡ false → list_all (stands (slice_set s t true)) (task_of dag x).upstreams ≡ b →
    In x (tasks_where dag (is_let_go_in dag (slice_set s t true) t) ++ left) ⊎ (list_all (stands (slice_set s t true)) (task_of dag x).upstreams ≡ false)
by_ready dag s t x left false low before now = inr now
by_ready dag s t x left true low before now =
    let p : ℕ → Bool = is_let_go_in dag (slice_set s t true) t in
    let e : p x ≡ true = and_from _ _ (newly s t (task_of dag x).upstreams before now) now in
    inl (in_front x (tasks_where dag p) left (in_kept p x (range_with_len 0 (length dag.tasks)) e (in_range 0 (length dag.tasks) x (omega arith) (omega arith))))

open_on : (dag : Dag) (s : List Bool) (t : ℕ) (left : List ℕ) → t < length s → Open dag s (t ∷ left) → Open dag (slice_set s t true) (tasks_where dag (is_let_go_in dag (slice_set s t true) t) ++ left)
open_on dag s t left inside unlocked x low not_yet =
    let earlier : stands s x ≡ false = not_standing (stands s x) (λ e. false≢true (sym not_yet ∙ stands_on s t x e)) in
    elim (unlocked x low earlier) [
      | inl (inl same) ↦ absurd (false≢true (sym not_yet ∙ subst (λ k. stands (slice_set s t true) k ≡ true) (sym same) (set_stands s t inside)))
      | inl (inr there) ↦ inl (in_back x (tasks_where dag (is_let_go_in dag (slice_set s t true) t)) left there)
      | inr waits ↦ by_ready dag s t x left (list_all (stands (slice_set s t true)) (task_of dag x).upstreams) low waits refl
    ]

-- where nobody is left, nobody waits: that one would wait for one that waits, and so on
stuck : (dag : Dag) (sound : IsSound dag) (s : List Bool) → Open dag s [] → (k x : ℕ) → sound.rank x ≤ k → x < length dag.tasks → stands s x ≡ false → ⊥
stuck dag sound s unlocked zero x high low not_yet =
    elim (unlocked x low not_yet) [
      | inl there ↦ there
      | inr waits ↦ let (u, there, fails) = some_fails (stands s) (task_of dag x).upstreams waits in let rises = sound.rises x u there in omega arith
    ]
stuck dag sound s unlocked (suc k) x high low not_yet =
    elim (unlocked x low not_yet) [
      | inl there ↦ there
      | inr waits ↦
          let (u, there, fails) = some_fails (stands s) (task_of dag x).upstreams waits in
          let rises = sound.rises x u there in
          stuck dag sound s unlocked k u (omega arith) (sound.in_range x u there) fails
    ]

cover : (dag : Dag) (sound : IsSound dag) (n : ℕ) (s : List Bool) (left : List ℕ) → Fits dag s left → Open dag s left → lacking s ≤ n → (x : ℕ) → x < length dag.tasks → stands s x ≡ false → (i : ℕ) × (slice_get (order_from dag n s left) i ≡ Some x)
cover dag sound zero s left fits unlocked few x low not_yet =
    let size = fits.size in
    let some = one_lacks s x (omega arith) not_yet in
    absurd (omega arith)
cover dag sound (suc n) s [] fits unlocked few x low not_yet = absurd (stuck dag sound s unlocked (sound.rank x) x (omega arith) low not_yet)
cover dag sound (suc n) s (t ∷ left) fits unlocked few x low not_yet =
    let more : List Bool = slice_set s t true in
    let fewer = fewer_lack s t fits.inside.0 fits.fresh.0 in
    ⊎_elim (λ same. (0, ap Some (sym same)))
    (λ other.
    let still : stands more x ≡ false = not_standing (stands more x) (λ now. ⊎_elim other (λ e. false≢true (sym not_yet ∙ e)) (stands_now s t x now)) in
    let (i, is) = cover dag sound n more (tasks_where dag (is_let_go_in dag more t) ++ left) (walks_on dag s t left fits) (open_on dag s t left fits.inside.0 unlocked) (omega arith) x low still in
    (suc i, is))
    (cases_eq x t)

pub order_all : (dag : Dag) → IsSound dag → (x : ℕ) → x < length dag.tasks → (i : ℕ) × (slice_get (order_of dag) i ≡ Some x)
unfolding order_of
order_all dag sound x low =
    let n : ℕ = length dag.tasks in
    cover dag sound n (replicate n false) (tasks_where dag (has_no_upstreams_in dag)) (begins dag) (open_first dag) (omega (arith, all_lack n)) x low (nothing_stands n x)
