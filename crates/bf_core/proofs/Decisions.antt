-- A decision that was taken is not revised by what becomes known later.
use Rattle.std.proofs.Common.{◌≡◌, ◌≢◌, ℕ, Bool, true, false, not, ◌&&◌, ◌||◌, ◌==◌, if◌then◌else◌, List, [], ◌∷◌, map, Option, None, Some, is_some, option_and_then, refl, sym, ap, ap₂, ◌∙◌, arith}
use Rattle.std.specs.List.{list_any, list_all, AllByRecursion}
use Rattle.std.proofs.lemmas.Bool.{and_parts, and_from}
use Rattle.bf_core.specs.Terms.{Dag, Task, task_of, Xval, Verdict, verdict, TaskValue, pull_of, items, is_branch_in}
use Rattle.bf_core.specs.Deciding.{Seen, lets_decide_in, branch_is, upstream_verdict_of, counts_over, past_verdict_of, past_after, Decision, pull_seen, pulled, instances_of, mapped, after_verdict, task_verdict_of, decision, branch_skips, is_blocked_in}
use Rattle.bf_rule.specs.Verdicts.{IsLater}
use Rattle.bf_rule.proofs.Later.{add_later, verdict_stable}

-- the value stays once it is known
abbrev pub StaysKnown : Option TaskValue → Option TaskValue → Type 0
StaysKnown a b = (v : TaskValue) → a ≡ Some v → b ≡ Some v

pub record IsSeenLater (a b : Seen) : Type 0 where
  pub counts : IsLater a.counts b.counts
  pub value : StaysKnown a.value b.value

known_later : (a b : Option TaskValue) (c : Bool) → StaysKnown a b → (is_some a || c) ≡ true → (is_some b || c) ≡ true
known_later None None c stays e = e
known_later None (Some w) c stays e = refl
known_later (Some v) b c stays e = rw (stays v refl)

all_later : (dag : Dag) (task : Task) (a b : ℕ → Seen) → ((u : ℕ) → IsSeenLater (a u) (b u)) → (us : List ℕ) →
    list_all (lets_decide_in dag task a) us ≡ true → list_all (lets_decide_in dag task b) us ≡ true
all_later dag task a b later [] e = refl
all_later dag task a b later (u ∷ us) e =
    and_from _ _ (known_later (a u).value (b u).value _ (later u).value (and_parts _ _ e).0) (all_later dag task a b later us (and_parts _ _ e).1)

-- what is asked of a branch is the same, once it is settled
branch_same : (dag : Dag) (p : TaskValue → Bool) (u : ℕ) (w : Bool) (a b : Option TaskValue) → StaysKnown a b →
    (is_some a || (not w && not (is_branch_in (task_of dag u)))) ≡ true → branch_is dag p u a ≡ branch_is dag p u b
branch_same dag p u w (Some v) b stays e = rw (stays v refl)
branch_same dag p u w None None stays e = refl
branch_same dag p u w None (Some v) stays e = go (is_branch_in (task_of dag u)) (and_parts (not w) _ e).1
  where
    go : (x : Bool) → not x ≡ true → false ≡ (x && p v)
    go true h = cc
    go false h = refl

any_same : (dag : Dag) (task : Task) (p : ℕ → TaskValue → Bool) (a b : ℕ → Seen) → ((u : ℕ) → IsSeenLater (a u) (b u)) → (us : List ℕ) →
    list_all (lets_decide_in dag task a) us ≡ true →
    list_any (λ u. branch_is dag (p u) u (a u).value) us ≡ list_any (λ u. branch_is dag (p u) u (b u).value) us
any_same dag task p a b later [] e = refl
any_same dag task p a b later (u ∷ us) e =
    ap₂ (λ x y. x || y) (branch_same dag (p u) u _ (a u).value (b u).value (later u).value (and_parts _ _ e).0) (any_same dag task p a b later us (and_parts _ _ e).1)

counts_later : (a b : ℕ → Seen) → ((u : ℕ) → IsSeenLater (a u) (b u)) → (us : List ℕ) → IsLater (counts_over a us) (counts_over b us)
counts_later a b later [] = record { success = omega arith; failed = omega arith; upstream_failed = omega arith; done = λ e. refl }
counts_later a b later (u ∷ us) = add_later _ _ _ _ (later u).counts (counts_later a b later us)

lines : Bool → Bool → Bool → Verdict → Verdict
lines may skips blocks v = if not may then Verdict.Wait else (if skips then Verdict.Skip else (if blocks then Verdict.Blocked else v))

lines_stable : (m n s t b c : Bool) (v w : Verdict) → (m ≡ true → (n ≡ true) × (s ≡ t) × (b ≡ c)) → (v ≢ Verdict.Wait → v ≡ w) →
    lines m s b v ≢ Verdict.Wait → lines m s b v ≡ lines n t c w
unfolding lines
lines_stable false n s t b c v w same stable decides = absurd (decides refl)
lines_stable true n s t b c v w same stable decides = rw ((same refl).0, ← (same refl).1, ← (same refl).2) (go s b decides)
  where
    go : (s b : Bool) → lines true s b v ≢ Verdict.Wait → lines true s b v ≡ lines true s b w
    go true b d = refl
    go false true d = refl
    go false false d = stable d

pub ruling_stable : (dag : Dag) (a b : ℕ → Seen) (t : ℕ) → ((u : ℕ) → IsSeenLater (a u) (b u)) →
    upstream_verdict_of dag a t ≢ Verdict.Wait → upstream_verdict_of dag a t ≡ upstream_verdict_of dag b t
unfolding lines upstream_verdict_of
ruling_stable dag a b t later decides =
    let us : List ℕ = (task_of dag t).upstreams in
    let task : Task = task_of dag t in
    lines_stable (list_all (lets_decide_in dag task a) us) (list_all (lets_decide_in dag task b) us)
    (list_any (λ u. branch_is dag (branch_skips dag t u) u (a u).value) us) (list_any (λ u. branch_is dag (branch_skips dag t u) u (b u).value) us)
    (list_any (λ u. branch_is dag is_blocked_in u (a u).value) us) (list_any (λ u. branch_is dag is_blocked_in u (b u).value) us)
    (verdict task.rule (counts_over a us)) (verdict task.rule (counts_over b us))
    (λ e. (all_later dag task a b later us e, any_same dag task (λ u. branch_skips dag t u) a b later us e, any_same dag task (λ u. is_blocked_in) a b later us e))
    (verdict_stable task.rule _ _ (counts_later a b later us))
    decides

past_stable : (a b : Option TaskValue) → StaysKnown a b → past_verdict_of a ≢ Verdict.Wait → past_verdict_of a ≡ past_verdict_of b
past_stable None b stays decides = absurd (decides refl)
past_stable (Some v) b stays decides = rw (stays v refl)

then_past_stable : (dag : Dag) (k t : ℕ) (p q : Option TaskValue) → StaysKnown p q → (v : Verdict) →
    past_after (task_of dag t).depends_on_past k p v ≢ Verdict.Wait → past_after (task_of dag t).depends_on_past k p v ≡ past_after (task_of dag t).depends_on_past k q v
then_past_stable dag k t p q stays Verdict.Run decides = go ((task_of dag t).depends_on_past && not (k == 0)) decides
  where
    go : (b : Bool) → (if b then past_verdict_of p else Verdict.Run) ≢ Verdict.Wait → (if b then past_verdict_of p else Verdict.Run) ≡ (if b then past_verdict_of q else Verdict.Run)
    go true d = past_stable p q stays d
    go false d = refl
then_past_stable dag k t p q stays _ decides = refl

waits_anyway : (dag : Dag) (k t : ℕ) (p : Option TaskValue) (v : Verdict) → v ≡ Verdict.Wait → past_after (task_of dag t).depends_on_past k p v ≡ Verdict.Wait
waits_anyway dag k t p v e = rw e

pub gate_stable : (dag : Dag) (k : ℕ) (a b : ℕ → Seen) (p q : Option TaskValue) (t : ℕ) → ((u : ℕ) → IsSeenLater (a u) (b u)) → StaysKnown p q →
    task_verdict_of dag k a p t ≢ Verdict.Wait → task_verdict_of dag k a p t ≡ task_verdict_of dag k b q t
unfolding task_verdict_of
gate_stable dag k a b p q t later stays decides =
    then_past_stable dag k t p q stays (upstream_verdict_of dag a t) decides
    ∙ ap (past_after (task_of dag t).depends_on_past k q) (ruling_stable dag a b t later (λ e. decides (waits_anyway dag k t p _ e)))

-- ---- the instances

-- each is settled
abbrev pub AllKnown : (ℕ → Seen) → List ℕ → Type 0
AllKnown seen ps = AllByRecursion (λ p. is_some (seen p).value ≡ true) ps

same_value : (a b : Option TaskValue) → StaysKnown a b → is_some a ≡ true → a ≡ b
same_value None b stays e = cc
same_value (Some v) b stays e = sym (stays v refl)

pulled_same : (dag : Dag) (a b : ℕ → Seen) → ((u : ℕ) → IsSeenLater (a u) (b u)) → (ps : List ℕ) → AllKnown a ps →
    map (pull_seen dag a) ps ≡ map (pull_seen dag b) ps
pulled_same dag a b later [] known = refl
pulled_same dag a b later (p ∷ ps) known =
    ap₂ (λ x xs. option_and_then (pull_of (task_of dag p)) x ∷ xs) (same_value (a p).value (b p).value (later p).value known.0) (pulled_same dag a b later ps known.1)

from_source : (dag : Dag) → List (Option Xval) → ℕ → Option TaskValue → Decision
from_source dag pulls source None = Decision.Wait
from_source dag pulls source (Some v) = mapped pulls (items (task_of dag source) v)

from_source_stable : (dag : Dag) (pulls : List (Option Xval)) (source : ℕ) (a b : Option TaskValue) → StaysKnown a b →
    from_source dag pulls source a ≢ Decision.Wait → from_source dag pulls source a ≡ from_source dag pulls source b
unfolding from_source
from_source_stable dag pulls source None b stays decides = absurd (decides refl)
from_source_stable dag pulls source (Some v) b stays decides = rw (stays v refl)

instances_stable : (dag : Dag) (a b : ℕ → Seen) → ((u : ℕ) → IsSeenLater (a u) (b u)) → (pulls : List (Option Xval)) (expand : Option ℕ) →
    instances_of dag a pulls expand ≢ Decision.Wait → instances_of dag a pulls expand ≡ instances_of dag b pulls expand
unfolding from_source
instances_stable dag a b later pulls None decides = refl
instances_stable dag a b later pulls (Some source) decides = from_source_stable dag pulls source (a source).value (b source).value (later source).value decides

after_stable : (dag : Dag) (a b : ℕ → Seen) (t : ℕ) → ((u : ℕ) → IsSeenLater (a u) (b u)) →
    (v : Verdict) → (v ≢ Verdict.Wait → AllKnown a (task_of dag t).pulls) →
    after_verdict dag a t v ≢ Decision.Wait → after_verdict dag a t v ≡ after_verdict dag b t v
after_stable dag a b t later Verdict.Wait known decides = refl
after_stable dag a b t later Verdict.Run known decides =
    instances_stable dag a b later (pulled dag a t) (task_of dag t).expand decides
    ∙ ap (λ x. instances_of dag b x (task_of dag t).expand) (pulled_same dag a b later (task_of dag t).pulls (known (λ e. cc)))
after_stable dag a b t later _ known decides = refl

-- a decision that doesn't wait is the same over what is known later, where what the task pulls from is settled if it runs
pub decision_stable : (dag : Dag) (k : ℕ) (a b : ℕ → Seen) (p q : Option TaskValue) (t : ℕ) →
    ((u : ℕ) → IsSeenLater (a u) (b u)) → StaysKnown p q → (task_verdict_of dag k a p t ≢ Verdict.Wait → AllKnown a (task_of dag t).pulls) →
    decision dag k a p t ≢ Decision.Wait → decision dag k a p t ≡ decision dag k b q t
unfolding decision
decision_stable dag k a b p q t later stays pulls decides =
    after_stable dag a b t later (task_verdict_of dag k a p t) pulls decides
    ∙ ap (after_verdict dag b t) (gate_stable dag k a b p q t later stays (λ e. decides (rw e)))
