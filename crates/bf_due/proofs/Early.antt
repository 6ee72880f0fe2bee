-- Early rules: what has come of an upstream lets no task be decided whose rule doesn't look for it, until all are settled.
use Rattle.std.proofs.Common.{◌≡◌, ◌⊎◌, ℕ, zero, suc, ◌+◌, ◌<◌, ◌==◌, nat_lt, Bool, true, false, not, ◌&&◌, ◌||◌, if◌then◌else◌, List, [], ◌∷◌, map, slice_get, Option, None, Some, is_some, refl, sym, ap, ap₂, ◌∙◌, subst, inl, inr, arith}
use Rattle.std.proofs.lemmas.Bool.{and_cases, both_ways, cases_Bool, not-false, or_parts, or_right, and_parts, and_from}
use Rattle.std.proofs.lemmas.Bool.Decides.{nat_tests}
use Rattle.std.specs.List.{list_all, list_any}
use Rattle.bf_core.specs.Terms.{Dag, Limits, JobName, Rule, Counts, Verdict, verdict, TaskResult, TaskValue, Given, task_of, add, finished_of, is_rule_met_in, is_branch_in, is_waiting, none_counted}
use Rattle.bf_core.specs.declared.state.State.{State}
use Rattle.bf_core.specs.declared.state.Cell.{Cell}
use Rattle.bf_core.specs.declared.state.Instance.{Instance}
use Rattle.bf_core.specs.declared.state.Phase.{Phase}
use Rattle.bf_core.specs.declared.event.Event.{Event}
use Rattle.bf_core.specs.declared.decision.Decision.{Decision}
use Rattle.bf_core.specs.Deciding.{Seen, after_verdict, past_after, branch_is, branch_skips, counts_over, decision, task_verdict_of, is_blocked_in, lets_decide_in, one_blocked, one_of, one_skipped, one_unfinished, one_upstream_failed, upstream_verdict_of}
use Rattle.bf_core.specs.Events.{after, before_in, cell_at, cell_of, change_at, change_instance, cons_result, counts_of_cell, counts_of_instance, counts_of_instances, decision_in, ended, fresh, instance_of, place_in, put, results, seen_in, value_in, IsDecidable, IsEnabled}
use Rattle.bf_core.proofs.Instances.{instance_here}
use Rattle.bf_core.proofs.Reading.{put_cases}
use Rattle.bf_due.specs.declared.news.News.{News}
use Rattle.bf_due.specs.inner.Stirring.{all_settled, decided_at, ended_at, finished_in, heard_of_cell, heard_of_instance, is_settled, rule_looks_for_in, is_past_known_in, may_let_early_in, waits_for_in}
use Rattle.bf_due.proofs.Locality.{RulesAlike, Touches, seen_kept, touches?}
use Rattle.bf_due.proofs.Reached.{settled_stays}

-- ---- what a rule looks for

some_sum : (m n : ℕ) → nat_lt 0 (m + n) ≡ (nat_lt 0 m || nat_lt 0 n)
some_sum zero n = let e : zero + n ≡ n = omega arith in ap (λ k. nat_lt 0 k) e
some_sum (suc m) n =
    let here : nat_lt 0 (suc m) ≡ true = grind (arith, nat_tests) in
    let all : nat_lt 0 (suc m + n) ≡ true = grind (arith, nat_tests) in
    rw (here, all)

-- it is among the sum where it is in some part
fires_add : (rule : Rule) (a b : Counts) → is_rule_met_in rule (add a b) ≡ (is_rule_met_in rule a || is_rule_met_in rule b)
fires_add Rule.OneSuccess a b = some_sum a.success b.success
fires_add Rule.OneFailed a b =
    let e : (a.failed + b.failed) + (a.upstream_failed + b.upstream_failed) ≡ (a.failed + a.upstream_failed) + (b.failed + b.upstream_failed) = omega arith in
    ap (λ n. nat_lt 0 n) e ∙ some_sum (a.failed + a.upstream_failed) (b.failed + b.upstream_failed)
fires_add Rule.OneDone a b =
    let e : (a.success + b.success) + (a.failed + b.failed) ≡ (a.success + a.failed) + (b.success + b.failed) = omega arith in
    ap (λ n. nat_lt 0 n) e ∙ some_sum (a.success + a.failed) (b.success + b.failed)
fires_add _ a b = refl

-- what is unfinished is nothing to it
quiet : (rule : Rule) → is_rule_met_in rule one_unfinished ≡ is_rule_met_in rule none_counted
quiet Rule.Always = refl
quiet _ = refl

none_fires : (rule : Rule) (c : Counts) → is_rule_met_in rule none_counted ≡ true → is_rule_met_in rule c ≡ true
none_fires Rule.Always c e = refl
none_fires _ c e = cc

-- counts that don't stir the rule are as nothing to it
unheard : (rule : Rule) (c : Counts) → rule_looks_for_in rule c ≡ false → is_rule_met_in rule c ≡ is_rule_met_in rule none_counted
unheard rule c h = go (is_rule_met_in rule c) (is_rule_met_in rule none_counted) (none_fires rule c) h
  where
    go : (x y : Bool) → (y ≡ true → x ≡ true) → (x && not y) ≡ false → x ≡ y
    go true true n h = refl
    go true false n h = h
    go false true n h = n refl
    go false false n h = refl

-- while something is unfinished an early rule runs or waits
early_verdict : (rule : Rule) (c : Counts) → 0 < c.unfinished → verdict rule c ≡ (if is_rule_met_in rule c then Verdict.Run else Verdict.Wait)
unfolding verdict
early_verdict rule c p =
    let some : (finished_of c + c.blocked + c.unfinished == 0) ≡ false = grind (arith, nat_tests) in
    let more : nat_lt 0 c.unfinished ≡ true = grind (arith, nat_tests) in
    rw (some, more)

same_verdict : (rule : Rule) (c d : Counts) → is_rule_met_in rule c ≡ is_rule_met_in rule d → 0 < c.unfinished → 0 < d.unfinished → verdict rule c ≡ verdict rule d
same_verdict rule c d same p q = early_verdict rule c p ∙ (ap (λ (b : Bool). if b then Verdict.Run else Verdict.Wait) same ∙ sym (early_verdict rule d q))

-- ---- a cell

or_same : (a : Bool) → (a || a) ≡ a
or_same true = refl
or_same false = refl

fresh_counts : (rule : Rule) (gs : List Given) → is_rule_met_in rule (counts_of_instances (map fresh gs)) ≡ is_rule_met_in rule none_counted
fresh_counts rule [] = refl
fresh_counts rule (g ∷ gs) = fires_add rule one_unfinished (counts_of_instances (map fresh gs)) ∙ (ap₂ (λ x y. x || y) (quiet rule) (fresh_counts rule gs) ∙ or_same (is_rule_met_in rule none_counted))

decision_told : (rule : Rule) (d : Decision) → rule_looks_for_in rule (heard_of_cell (cell_of d)) ≡ false → is_rule_met_in rule (counts_of_cell (cell_of d)) ≡ is_rule_met_in rule one_unfinished
decision_told rule Decision.Wait h = refl
decision_told rule Decision.Blocked h = unheard rule one_blocked h ∙ sym (quiet rule)
decision_told rule Decision.Skipped h = unheard rule one_skipped h ∙ sym (quiet rule)
decision_told rule Decision.UpstreamFailed h = unheard rule one_upstream_failed h ∙ sym (quiet rule)
decision_told rule (Decision.Instances gs) h = fresh_counts rule gs ∙ sym (quiet rule)

phase_told : (rule : Rule) (p : Phase) → rule_looks_for_in rule (finished_in p) ≡ false → is_rule_met_in rule (counts_of_instance p) ≡ is_rule_met_in rule one_unfinished
phase_told rule (Phase.Finished o) h = unheard rule (one_of o) h ∙ sym (quiet rule)
phase_told rule Phase.Waiting h = refl
phase_told rule Phase.Running h = refl

one_told : (rule : Rule) (f : Instance → Instance) (xs : List Instance) (i : ℕ) (x : Instance) → slice_get xs i ≡ Some x →
    is_rule_met_in rule (counts_of_instance (f x).phase) ≡ is_rule_met_in rule (counts_of_instance x.phase) → is_rule_met_in rule (counts_of_instances (change_at f xs i)) ≡ is_rule_met_in rule (counts_of_instances xs)
one_told rule f [] i x e same = cc
one_told rule f (y ∷ ys) zero x e same =
    let is : x ≡ y = cc in
    let here : is_rule_met_in rule (counts_of_instance (f y).phase) ≡ is_rule_met_in rule (counts_of_instance y.phase) = subst (λ (z : Instance). is_rule_met_in rule (counts_of_instance (f z).phase) ≡ is_rule_met_in rule (counts_of_instance z.phase)) is same in
    fires_add rule (counts_of_instance (f y).phase) (counts_of_instances ys) ∙ (ap (λ (b : Bool). b || is_rule_met_in rule (counts_of_instances ys)) here ∙ sym (fires_add rule (counts_of_instance y.phase) (counts_of_instances ys)))
one_told rule f (y ∷ ys) (suc i) x e same =
    fires_add rule (counts_of_instance y.phase) (counts_of_instances (change_at f ys i)) ∙
    (ap (λ (b : Bool). is_rule_met_in rule (counts_of_instance y.phase) || b) (one_told rule f ys i x e same) ∙ sym (fires_add rule (counts_of_instance y.phase) (counts_of_instances ys)))

cell_told : (rule : Rule) (f : Instance → Instance) (c : Cell) (i : ℕ) (x : Instance) → instance_of c i ≡ Some x →
    is_rule_met_in rule (counts_of_instance (f x).phase) ≡ is_rule_met_in rule (counts_of_instance x.phase) → is_rule_met_in rule (counts_of_cell (change_instance f c i)) ≡ is_rule_met_in rule (counts_of_cell c)
cell_told rule f (Cell.Ran xs) i x e same = one_told rule f xs i x e same
cell_told rule f Cell.Undecided i x e same = refl
cell_told rule f Cell.Blocked i x e same = refl
cell_told rule f Cell.Skipped i x e same = refl
cell_told rule f Cell.UpstreamFailed i x e same = refl

end_told : (rule : Rule) (f : Instance → Instance) (c : Cell) (i : ℕ) (x : Instance) → instance_of c i ≡ Some x → x.phase ≡ Phase.Running →
    rule_looks_for_in rule (heard_of_instance (instance_of (change_instance f c i) i)) ≡ false → is_rule_met_in rule (counts_of_cell (change_instance f c i)) ≡ is_rule_met_in rule (counts_of_cell c)
end_told rule f c i x e runs h =
    let none : rule_looks_for_in rule (finished_in (f x).phase) ≡ false = subst (λ (o : Option Instance). rule_looks_for_in rule (heard_of_instance o) ≡ false) (instance_here f c i x e) h in
    cell_told rule f c i x e (phase_told rule (f x).phase none ∙ sym (ap (λ (p : Phase). is_rule_met_in rule (counts_of_instance p)) runs))

put_told : (heard : Cell → Counts) (rule : Rule) (s : State) (k t : ℕ) (c : Cell) → (rule_looks_for_in rule (heard c) ≡ false → is_rule_met_in rule (counts_of_cell c) ≡ is_rule_met_in rule (counts_of_cell (cell_at s k t))) →
    rule_looks_for_in rule (heard (cell_at (put s k t c) k t)) ≡ false → is_rule_met_in rule (counts_of_cell (cell_at (put s k t c) k t)) ≡ is_rule_met_in rule (counts_of_cell (cell_at s k t))
put_told heard rule s k t c told h = elim (put_cases s k t c k t) [
  | inl p ↦ ap (λ (d : Cell). is_rule_met_in rule (counts_of_cell d)) p.2 ∙ told (subst (λ (d : Cell). rule_looks_for_in rule (heard d) ≡ false) p.2 h)
  | inr e ↦ ap (λ (d : Cell). is_rule_met_in rule (counts_of_cell d)) e
]

-- ---- an event

-- the event touches the task of the news alone, and the news tell what has finished of it
pub record IsTold (dag : Dag) (s : State) (e : Event) (n : News) : Type 0 where
  pub only : (a b : ℕ) → Touches e a b → (a ≡ n.run) × (b ≡ n.task)
  pub told : (rule : Rule) → rule_looks_for_in rule n.counts ≡ false → is_rule_met_in rule (counts_of_cell (cell_at (after dag s e) n.run n.task)) ≡ is_rule_met_in rule (counts_of_cell (cell_at s n.run n.task))

pub told_settle : (dag : Dag) (limits : Limits) (s : State) (k t : ℕ) → IsEnabled dag limits s (Event.Settle k t) → IsTold dag s (Event.Settle k t) (decided_at (after dag s (Event.Settle k t)) k t)
unfolding after
told_settle dag limits s k t able = record {
  only = λ a b x. x;
  told = λ rule h. put_told heard_of_cell rule s k t (cell_of (decision_in dag s k t))
      (λ g. decision_told rule (decision_in dag s k t) g ∙ sym (ap (λ (c : Cell). is_rule_met_in rule (counts_of_cell c)) able.0.undecided)) h;
}

pub told_expand : (dag : Dag) (limits : Limits) (s : State) (k t : ℕ) → IsEnabled dag limits s (Event.Expand k t) → IsTold dag s (Event.Expand k t) (decided_at (after dag s (Event.Expand k t)) k t)
unfolding after
told_expand dag limits s k t able = record {
  only = λ a b x. x;
  told = λ rule h. put_told heard_of_cell rule s k t (cell_of (decision_in dag s k t))
      (λ g. decision_told rule (decision_in dag s k t) g ∙ sym (ap (λ (c : Cell). is_rule_met_in rule (counts_of_cell c)) able.0.undecided)) h;
}

pub told_end : (dag : Dag) (limits : Limits) (s : State) (n : JobName) (o : _) → IsEnabled dag limits s (Event.End n o) → IsTold dag s (Event.End n o) (ended_at dag (after dag s (Event.End n o)) n)
unfolding after
told_end dag limits s n o able = record {
  only = λ a b x. x;
  told = λ rule h. put_told (λ c. heard_of_instance (instance_of c (place_in dag n))) rule s n.run n.task (change_instance (ended (task_of dag n.task).retries o) (cell_at s n.run n.task) (place_in dag n))
      (λ g. end_told rule (ended (task_of dag n.task).retries o) (cell_at s n.run n.task) (place_in dag n) able.0.held able.0.is_held able.0.in_phase g) h;
}

-- ---- what is unfinished

open_instances : (xs : List Instance) → is_some (value_in (Cell.Ran xs)) ≡ false → 0 < (counts_of_instances xs).unfinished
open_instances [] h = cc
open_instances (x ∷ xs) h = go x.phase (results xs) h (λ e. open_instances xs e)
  where
    go : (p : Phase) (rs : Option (List TaskResult)) → is_some (elim (cons_result x.attempt p rs) [ None ↦ None | Some r ↦ Some (TaskValue.Ran r) ]) ≡ false →
        (is_some (elim rs [ None ↦ None | Some r ↦ Some (TaskValue.Ran r) ]) ≡ false → 0 < (counts_of_instances xs).unfinished) → 0 < (add (counts_of_instance p) (counts_of_instances xs)).unfinished
    go Phase.Waiting rs e more = omega arith
    go Phase.Running rs e more = omega arith
    go (Phase.Finished o) None e more = let rest : 0 < (counts_of_instances xs).unfinished = more refl in omega (arith, rest)
    go (Phase.Finished o) (Some rs) e more = cc

-- a cell that isn't settled has something unfinished
open_counts : (c : Cell) → is_some (value_in c) ≡ false → 0 < (counts_of_cell c).unfinished
open_counts Cell.Undecided h = omega arith
open_counts Cell.Blocked h = cc
open_counts Cell.Skipped h = cc
open_counts Cell.UpstreamFailed h = cc
open_counts (Cell.Ran xs) h = open_instances xs h

open_over : (s : State) (k : ℕ) (us : List ℕ) → list_all (is_settled s k) us ≡ false → 0 < (counts_over (λ u. seen_in (cell_at s k u)) us).unfinished
open_over s k [] h = cc
open_over s k (u ∷ us) h = elim (cases_Bool (is_settled s k u)) [
  | inr none ↦ let here : 0 < (counts_of_cell (cell_at s k u)).unfinished = open_counts (cell_at s k u) none in omega (arith, here)
  | inl here ↦ let rest : 0 < (counts_over (λ v. seen_in (cell_at s k v)) us).unfinished = open_over s k us (go (is_settled s k u) here h) in omega (arith, rest)
]
  where
    go : (b : Bool) → b ≡ true → (b && list_all (is_settled s k) us) ≡ false → list_all (is_settled s k) us ≡ false
    go true y h = h
    go false y h = cc

-- ---- a verdict that waits for the previous run

-- a ruling: whether each upstream lets the task be decided, whether a branch skips or blocks it, and else the verdict
abbrev lines : Bool → Bool → Bool → Verdict → Verdict
lines all skips blocks v = if not all then Verdict.Wait else (if skips then Verdict.Skip else (if blocks then Verdict.Blocked else v))

-- it is the same for both verdicts, or the verdict itself
lines_or : (all skips blocks : Bool) (v w : Verdict) → (lines all skips blocks v ≡ lines all skips blocks w) ⊎ (lines all skips blocks v ≡ v)
lines_or false skips blocks v w = inl refl
lines_or true true blocks v w = inl refl
lines_or true false true v w = inl refl
lines_or true false false v w = inr refl

early_or : (rule : Rule) (c : Counts) → 0 < c.unfinished → (verdict rule c ≡ Verdict.Run) ⊎ (verdict rule c ≡ Verdict.Wait)
early_or rule c p = go (is_rule_met_in rule c) (early_verdict rule c p)
  where
    go : (b : Bool) → verdict rule c ≡ (if b then Verdict.Run else Verdict.Wait) → (verdict rule c ≡ Verdict.Run) ⊎ (verdict rule c ≡ Verdict.Wait)
    go true e = inl e
    go false e = inr e

none_if : (o : Option TaskValue) → is_some o ≡ false → o ≡ None
none_if None e = refl
none_if (Some v) e = cc

past_awaited : (dag : Dag) (s : State) (k t : ℕ) → is_past_known_in dag s k t ≡ false → (v : Verdict) → (v ≡ Verdict.Run) ⊎ (v ≡ Verdict.Wait) → past_after (task_of dag t).depends_on_past k (before_in s k t) v ≡ Verdict.Wait
past_awaited dag s k t unaware v (inr e) = rw e
past_awaited dag s k t unaware v (inl e) =
    let depends : (task_of dag t).depends_on_past ≡ true = not-false _ (or_parts _ _ unaware).0 in
    let later : (k == 0) ≡ false = (or_parts (k == 0) _ (or_parts (not (task_of dag t).depends_on_past) _ unaware).1).0 in
    let none : before_in s k t ≡ None = none_if (before_in s k t) (or_parts (k == 0) _ (or_parts (not (task_of dag t).depends_on_past) _ unaware).1).1 in
    rw (e, depends, later, none)

-- ---- news that don't matter

module _ (dag : Dag) (limits : Limits) (s : State) (e : Event) (able : IsEnabled dag limits s e) where
  all_kept : (k : ℕ) (us : List ℕ) → list_all (is_settled s k) us ≡ true → list_all (is_settled (after dag s e) k) us ≡ true
  all_kept k [] h = refl
  all_kept k (u ∷ us) h = and_from _ _ (settled_stays dag limits s e able k u (and_parts _ _ h).0) (all_kept k us (and_parts (is_settled s k u) _ h).1)

  unsettled_before : (k : ℕ) (us : List ℕ) → list_all (is_settled (after dag s e) k) us ≡ false → list_all (is_settled s k) us ≡ false
  unsettled_before k us h = elim (cases_Bool (list_all (is_settled s k) us)) [
    | inr before ↦ before
    | inl all ↦ absurd (both_ways _ h (all_kept k us all))
  ]

  module _ (n : News) (told : IsTold dag s e n) (t : ℕ) (free : waits_for_in dag n.task t ≡ false) (unmoved : may_let_early_in dag (after dag s e) n t ≡ false) where
    now : ℕ → Seen
    now v = seen_in (cell_at (after dag s e) n.run v)

    was : ℕ → Seen
    was v = seen_in (cell_at s n.run v)

    single : is_some (task_of dag t).expand ≡ false
    single = (or_parts _ _ unmoved).0

    quiet_or_unaware : (rule_looks_for_in (task_of dag t).rule n.counts ≡ false) ⊎ (is_past_known_in dag (after dag s e) n.run t ≡ false)
    quiet_or_unaware = and_cases (rule_looks_for_in (task_of dag t).rule n.counts) (is_past_known_in dag (after dag s e) n.run t) (or_parts _ _ (or_parts (is_some (task_of dag t).expand) _ unmoved).1).0

    some_open : all_settled dag (after dag s e) n.run t ≡ false
    some_open = (or_parts (rule_looks_for_in (task_of dag t).rule n.counts && is_past_known_in dag (after dag s e) n.run t) _ (or_parts (is_some (task_of dag t).expand) _ unmoved).1).1

    early : is_waiting (task_of dag t).rule ≡ false
    early = (or_parts _ _ free).0

    plain : is_branch_in (task_of dag n.task) ≡ false
    plain = (or_parts (is_waiting (task_of dag t).rule) _ free).1

    differs : (v : ℕ) → (v ≡ n.task) ⊎ (now v ≡ was v)
    unfolding now was
    differs v = elim (touches? e n.run v) [ inl x ↦ inl (told.only n.run v x).1 | inr none ↦ inr (seen_kept dag limits s e able n.run v none) ]

    one_lets : (v : ℕ) → lets_decide_in dag (task_of dag t) now v ≡ lets_decide_in dag (task_of dag t) was v
    one_lets v = elim (differs v) [
      | inr same ↦ ap (λ (x : Seen). is_some x.value || (not (is_waiting (task_of dag t).rule) && not (is_branch_in (task_of dag v)))) same
      | inl is ↦
          let free : (not (is_waiting (task_of dag t).rule) && not (is_branch_in (task_of dag v))) ≡ true = rw (early, is, plain) in
          or_right (is_some (now v).value) _ free ∙ sym (or_right (is_some (was v).value) _ free)
    ]

    all_lets : (us : List ℕ) → list_all (lets_decide_in dag (task_of dag t) now) us ≡ list_all (lets_decide_in dag (task_of dag t) was) us
    all_lets [] = refl
    all_lets (u ∷ us) = ap₂ (λ x y. x && y) (one_lets u) (all_lets us)

    no_branch : (p : TaskValue → Bool) (v : ℕ) → v ≡ n.task → (o : Option TaskValue) → branch_is dag p v o ≡ false
    no_branch p v is None = refl
    no_branch p v is (Some x) = rw (is, plain)

    any_branch : (p : ℕ → TaskValue → Bool) (us : List ℕ) → list_any (λ u. branch_is dag (p u) u (now u).value) us ≡ list_any (λ u. branch_is dag (p u) u (was u).value) us
    any_branch p [] = refl
    any_branch p (u ∷ us) = ap₂ (λ x y. x || y) (elim (differs u) [
      | inr same ↦ ap (λ (x : Seen). branch_is dag (p u) u x.value) same
      | inl is ↦ no_branch (p u) u is (now u).value ∙ sym (no_branch (p u) u is (was u).value)
    ]) (any_branch p us)

    one_fires : rule_looks_for_in (task_of dag t).rule n.counts ≡ false → (v : ℕ) → is_rule_met_in (task_of dag t).rule (now v).counts ≡ is_rule_met_in (task_of dag t).rule (was v).counts
    unfolding now was
    one_fires calm v = elim (differs v) [
      | inr same ↦ ap (λ (x : Seen). is_rule_met_in (task_of dag t).rule x.counts) same
      | inl is ↦ subst (λ (u : ℕ). is_rule_met_in (task_of dag t).rule (now u).counts ≡ is_rule_met_in (task_of dag t).rule (was u).counts) (sym is) (told.told (task_of dag t).rule calm)
    ]

    all_fire : rule_looks_for_in (task_of dag t).rule n.counts ≡ false → (us : List ℕ) → is_rule_met_in (task_of dag t).rule (counts_over now us) ≡ is_rule_met_in (task_of dag t).rule (counts_over was us)
    all_fire calm [] = refl
    all_fire calm (u ∷ us) =
        fires_add (task_of dag t).rule (now u).counts (counts_over now us) ∙
        (ap₂ (λ x y. x || y) (one_fires calm u) (all_fire calm us) ∙ sym (fires_add (task_of dag t).rule (was u).counts (counts_over was us)))

    -- something is unfinished now
    now_open : 0 < (counts_over now (task_of dag t).upstreams).unfinished
    unfolding now
    now_open = open_over (after dag s e) n.run (task_of dag t).upstreams some_open

    was_open : 0 < (counts_over was (task_of dag t).upstreams).unfinished
    unfolding was
    was_open = open_over s n.run (task_of dag t).upstreams (unsettled_before n.run (task_of dag t).upstreams some_open)

    -- the ruling is as it was but for the verdict on the counts
    ruling_but : (v : Verdict) → verdict (task_of dag t).rule (counts_over was (task_of dag t).upstreams) ≡ v →
        lines (list_all (lets_decide_in dag (task_of dag t) now) (task_of dag t).upstreams) (list_any (λ u. branch_is dag (branch_skips dag t u) u (now u).value) (task_of dag t).upstreams)
        (list_any (λ u. branch_is dag is_blocked_in u (now u).value) (task_of dag t).upstreams) v ≡ upstream_verdict_of dag was t
    unfolding upstream_verdict_of
    ruling_but v e = rw (
      all_lets (task_of dag t).upstreams,
      any_branch (λ u. branch_skips dag t u) (task_of dag t).upstreams,
      any_branch (λ u. is_blocked_in) (task_of dag t).upstreams,
      ← e,
    )

    same_ruling : rule_looks_for_in (task_of dag t).rule n.counts ≡ false → upstream_verdict_of dag now t ≡ upstream_verdict_of dag was t
    unfolding upstream_verdict_of
    same_ruling calm =
        ruling_but (verdict (task_of dag t).rule (counts_over now (task_of dag t).upstreams))
        (sym (same_verdict (task_of dag t).rule (counts_over now (task_of dag t).upstreams) (counts_over was (task_of dag t).upstreams) (all_fire calm (task_of dag t).upstreams) now_open was_open))

    ruling_or : (upstream_verdict_of dag now t ≡ upstream_verdict_of dag was t) ⊎ (upstream_verdict_of dag now t ≡ verdict (task_of dag t).rule (counts_over now (task_of dag t).upstreams))
    unfolding upstream_verdict_of
    ruling_or = go (lines_or (list_all (lets_decide_in dag (task_of dag t) now) (task_of dag t).upstreams) (list_any (λ u. branch_is dag (branch_skips dag t u) u (now u).value) (task_of dag t).upstreams) (list_any (λ u. branch_is dag is_blocked_in u (now u).value) (task_of dag t).upstreams)
        (verdict (task_of dag t).rule (counts_over now (task_of dag t).upstreams)) (verdict (task_of dag t).rule (counts_over was (task_of dag t).upstreams))) (ruling_but (verdict (task_of dag t).rule (counts_over was (task_of dag t).upstreams)) refl)
      where
        go : {v w : Verdict} → (upstream_verdict_of dag now t ≡ v) ⊎ (upstream_verdict_of dag now t ≡ w) → v ≡ upstream_verdict_of dag was t → (upstream_verdict_of dag now t ≡ upstream_verdict_of dag was t) ⊎ (upstream_verdict_of dag now t ≡ w)
        go (inl same) e = inl (same ∙ e)
        go (inr only) e = inr only

    -- a task that waits for its previous run isn't decided by such a verdict
    not_decided : is_past_known_in dag (after dag s e) n.run t ≡ false → upstream_verdict_of dag now t ≡ verdict (task_of dag t).rule (counts_over now (task_of dag t).upstreams) → IsDecidable dag (after dag s e) n.run t → ⊥
    unfolding decision_in decision task_verdict_of now
    not_decided unaware only due =
        let waits : task_verdict_of dag n.run now (before_in (after dag s e) n.run t) t ≡ Verdict.Wait =
        ap (past_after (task_of dag t).depends_on_past n.run (before_in (after dag s e) n.run t)) only ∙
        past_awaited dag (after dag s e) n.run t unaware (verdict (task_of dag t).rule (counts_over now (task_of dag t).upstreams)) (early_or (task_of dag t).rule (counts_over now (task_of dag t).upstreams) now_open) in
        due.decides (ap (after_verdict dag now t) waits)

    rules_as : upstream_verdict_of dag now t ≡ upstream_verdict_of dag was t → RulesAlike dag (after dag s e) s n.run t
    unfolding now was
    rules_as same = record { upstream_verdict_of = same; source = λ u is. let f : true ≡ false = sym (ap is_some is) ∙ single in cc }

    -- the ruling on a task to which the news don't matter is as it was, or it isn't decided now
    pub unmoved_rules : IsDecidable dag (after dag s e) n.run t → RulesAlike dag (after dag s e) s n.run t
    unmoved_rules due = elim quiet_or_unaware [
      | inl calm ↦ rules_as (same_ruling calm)
      | inr unaware ↦ elim ruling_or [ inl same ↦ rules_as same | inr only ↦ absurd (not_decided unaware only due) ]
    ]
