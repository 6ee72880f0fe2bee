-- An instance rests on what its task rests on, and not on the task's other instances.
use Rattle.std.proofs.Common.{◌≡◌, ℕ, suc, zero, ◌<◌, ◌≤◌, Bool, true, false, length, Option, None, Some, refl, sym, ap, ◌∙◌, arith}
use Rattle.bf_core.specs.Terms.{Verdict, Dag, task_of, Given, Outcome, Entry, JobName, Ledger, result_of, name_of, outcome_at, outcome_of, last_try, TaskValue, IsOneOf, IsSettledAncestor, Direct, Above, IsSound}
use Rattle.bf_core.specs.declared.decision.Decision.{Decision}
use Rattle.bf_core.specs.Deciding.{Seen, settled, past_after, after_verdict, task_verdict_of, decision}
use Rattle.bf_core.specs.Recursion.{out, before, decided, value_of, results_from, Asks}
use Rattle.bf_core.specs.Events.{place_in}
use Rattle.bf_core.specs.Agreement.{HoldsItsTries}
use Rattle.bf_core.proofs.Attempts.{last_try_same}
use Rattle.bf_core.proofs.Confluence.{ancestor_in, decided_alike, entries_same, AreAlikeAt, IsClosed}
use Rattle.bf_core.proofs.Depth.{decision_cong, out_is, pick}

-- the two are alike at the tries of an instance
abbrev pub AreAlikeOf : Ledger → Ledger → JobName → Type 0
AreAlikeOf one two n = (m : JobName) (d e : Entry) → m.run ≡ n.run → m.task ≡ n.task → m.index ≡ n.index → one m ≡ Some d → two m ≡ Some e → d.given ≡ e.given → d.outcome ≡ e.outcome

-- the same at the tries of the instance in a place of a task
abbrev AreAlikeIn : Dag → Ledger → Ledger → ℕ → ℕ → ℕ → Type 0
AreAlikeIn dag one two k t i =
    (a : ℕ) (d e : Entry) → one (name_of dag k t i a) ≡ Some d → two (name_of dag k t i a) ≡ Some e → d.given ≡ e.given → d.outcome ≡ e.outcome

alike_in : (dag : Dag) (one two : Ledger) (n : JobName) (i : ℕ) → n ≡ name_of dag n.run n.task i n.attempt → AreAlikeOf one two n → AreAlikeIn dag one two n.run n.task i
unfolding name_of
alike_in dag one two n i name alike a d e first second given = alike (name_of dag n.run n.task i a) d e refl refl (ap (λ (m : JobName). m.index) (sym name)) first second given

-- a task that doesn't depend on its past is decided without it
past_free : (dag : Dag) (k t : ℕ) (p q : Option TaskValue) (v : Verdict) → (task_of dag t).depends_on_past ≡ false → past_after (task_of dag t).depends_on_past k p v ≡ past_after (task_of dag t).depends_on_past k q v
past_free dag k t p q Verdict.Run e = rw e
past_free dag k t p q Verdict.Wait e = refl
past_free dag k t p q _ e = refl

decision_free : (dag : Dag) (k : ℕ) (seen : ℕ → Seen) (p q : Option TaskValue) (t : ℕ) → (task_of dag t).depends_on_past ≡ false → decision dag k seen p t ≡ decision dag k seen q t
unfolding decision task_verdict_of
decision_free dag k seen p q t e = ap (after_verdict dag seen t) (past_free dag k t p q _ e)

-- the tries that the recursion asks for of an instance, over a ledger that has them
abbrev HasTries : Dag → Ledger → ℕ → ℕ → ℕ → Given → Type 0
HasTries dag ledger k t i given =
    (a : ℕ) → 1 ≤ a → a ≤ (result_of dag ledger k t i).tries → (o : Outcome) × (ledger (name_of dag k t i a) ≡ Some (record { given = given; outcome = o }))

tries_same : (dag : Dag) (one two : Ledger) (k t i : ℕ) → AreAlikeIn dag one two k t i → (given : Given) → HasTries dag one k t i given → HasTries dag two k t i given →
    (result_of dag one k t i).tries ≡ (result_of dag two k t i).tries
unfolding result_of
tries_same dag one two k t i alike given has_one has_two = last_try_same f g 1 (task_of dag t).retries same
  where
    f : ℕ → Outcome
    f = outcome_at dag one k t i

    g : ℕ → Outcome
    g = outcome_at dag two k t i

    same : (b : ℕ) → 1 ≤ b → b ≤ last_try f 1 (task_of dag t).retries → b ≤ last_try g 1 (task_of dag t).retries → f b ≡ g b
    same b l m n =
        let d : _ = has_one b l m in
        let e : _ = has_two b l n in
        ap outcome_of d.1 ∙ (alike b _ _ d.1 e.1 refl ∙ sym (ap outcome_of e.1))

module _ (dag : Dag) (sound : IsSound dag) (runs : ℕ) (one two : Ledger) (Kept : ℕ → ℕ → Type 0) (closed : IsClosed dag Kept) (alike : (k t : ℕ) → Kept k t → AreAlikeAt dag one two k t) (first : HoldsItsTries dag runs one) (second : HoldsItsTries dag runs two) where
  entries : (k t i a : ℕ) → Kept k t → one (name_of dag k t i a) ≡ two (name_of dag k t i a)
  unfolding name_of
  entries k t i a kept = entries_same dag sound runs one two Kept closed alike first second (name_of dag k t i a) kept

  results : (k t : ℕ) → Kept k t → (i : ℕ) → result_of dag one k t i ≡ result_of dag two k t i
  unfolding result_of
  results k t kept i =
      ap (λ (f : ℕ → Outcome). record { outcome = f (last_try f 1 (task_of dag t).retries); tries = last_try f 1 (task_of dag t).retries })
      (λ j a. outcome_of (entries k t i a kept j))

  values : (k t : ℕ) → Kept k t → (d : Decision) → value_of dag one k t d ≡ value_of dag two k t d
  values k t kept Decision.Skipped = refl
  values k t kept Decision.UpstreamFailed = refl
  values k t kept (Decision.Instances gs) = ap (λ f. TaskValue.Ran (results_from f 0 gs)) (λ j i. results k t kept i j)
  values k t kept Decision.Wait = refl
  values k t kept Decision.Blocked = refl

  outs : (k t : ℕ) → Kept k t → k < runs → t < length dag.tasks → out dag one k t ≡ out dag two k t
  outs k t kept l m =
      out_is dag sound one k t
      ∙ (values k t kept (decided dag one k t)
      ∙ (ap (value_of dag two k t) (decided_alike dag sound runs one two Kept closed alike first.defined second.defined k t kept l m)
      ∙ sym (out_is dag sound two k t)))

  ancestor_kept : (k t a : ℕ) → ((u : ℕ) → IsOneOf (task_of dag t).upstreams u → Kept k u) → IsSettledAncestor dag t a → Kept k a
  ancestor_kept k t a up (Direct w h) = up a h
  ancestor_kept k t a up (Above {u = u} w h above) = ancestor_kept k u a (λ v g. closed.up k u v (up u h) g) above

  -- what a task rests on
  module _ (k t : ℕ) (l : k < runs) (m : t < length dag.tasks) (up : (u : ℕ) → IsOneOf (task_of dag t).upstreams u → Kept k u) (back : (j : ℕ) → k ≡ suc j → (task_of dag t).depends_on_past ≡ true → Kept j t) where
    past_same : (n : ℕ) → k ≡ n → (task_of dag t).depends_on_past ≡ true → before dag one n t ≡ before dag two n t
    unfolding before
    past_same zero e d = refl
    past_same (suc j) e d = outs j t (back j e d) (omega (arith, l, e)) m

    decided_same : decided dag one k t ≡ decided dag two k t
    unfolding decided
    decided_same =
        decision_cong dag k _ _ (Some (before dag one k t)) t sound
        (λ u h. ap settled (outs k u (up u h) l (sound.in_range t u h)))
        (λ p h. let above : _ = pick (IsSettledAncestor dag t) (task_of dag t).pulls p (sound.pulls_settled t) h in
        ap settled (outs k p (ancestor_kept k t p up above) l (ancestor_in dag sound t p above)))
        ∙ go (task_of dag t).depends_on_past refl
      where
        go : (b : Bool) → (task_of dag t).depends_on_past ≡ b →
            decision dag k (λ u. settled (out dag two k u)) (Some (before dag one k t)) t ≡ decision dag k (λ u. settled (out dag two k u)) (Some (before dag two k t)) t
        go true e = ap (λ v. decision dag k (λ u. settled (out dag two k u)) (Some v) t) (past_same k refl e)
        go false e = decision_free dag k _ _ _ t e

-- what one ledger has of an instance the other has too
entry_forth : (dag : Dag) (runs : ℕ) (one two : Ledger) → HoldsItsTries dag runs one → HoldsItsTries dag runs two → (n : JobName) → AreAlikeOf one two n →
    (n.run < runs → n.task < length dag.tasks → decided dag one n.run n.task ≡ decided dag two n.run n.task) → (e : Entry) → one n ≡ Some e → two n ≡ Some e
entry_forth dag runs one two first second n alike decided_same e h =
    let a : _ = first.asked n e h in
    let i : ℕ = place_in dag n in
    let asks : Asks dag one n.run n.task i n.attempt e.given = a.3 in
    let same : decided dag one n.run n.task ≡ decided dag two n.run n.task = decided_same a.0 a.1 in
    let tries : (result_of dag one n.run n.task i).tries ≡ (result_of dag two n.run n.task i).tries =
    tries_same dag one two n.run n.task i (alike_in dag one two n i a.2 alike) e.given
    (λ b l m. first.defined n.run n.task i b e.given a.0 a.1 (record { givens = asks.givens; runs = asks.runs; is_one = asks.is_one; from_first = l; to_last = m }))
    (λ b l m. second.defined n.run n.task i b e.given a.0 a.1 (record { givens = asks.givens; runs = sym same ∙ asks.runs; is_one = asks.is_one; from_first = l; to_last = m })) in
    let found : _ = second.defined n.run n.task i n.attempt e.given a.0 a.1 (record { givens = asks.givens; runs = sym same ∙ asks.runs; is_one = asks.is_one; from_first = asks.from_first; to_last = rw (← tries) asks.to_last }) in
    let there : two n ≡ Some (record { given = e.given; outcome = found.0 }) = ap two a.2 ∙ found.1 in
    there ∙ ap (λ o. Some (record { given = e.given; outcome = o })) (sym (alike n e _ refl refl refl h there refl))

-- two ledgers that hold their tries, are alike within a closed set, and at an instance whose task rests on that set, have equal entries of the instance
pub instance_same : (dag : Dag) → IsSound dag → (runs : ℕ) (one two : Ledger) (Kept : ℕ → ℕ → Type 0) → IsClosed dag Kept → ((k t : ℕ) → Kept k t → AreAlikeAt dag one two k t) →
    HoldsItsTries dag runs one → HoldsItsTries dag runs two → (n : JobName) → ((u : ℕ) → IsOneOf (task_of dag n.task).upstreams u → Kept n.run u) →
    ((j : ℕ) → n.run ≡ suc j → (task_of dag n.task).depends_on_past ≡ true → Kept j n.task) → AreAlikeOf one two n → one n ≡ two n
instance_same dag sound runs one two Kept closed alike first second n up back at = go (one n) refl (two n) refl
  where
    same : n.run < runs → n.task < length dag.tasks → decided dag one n.run n.task ≡ decided dag two n.run n.task
    same l m = decided_same dag sound runs one two Kept closed alike first second n.run n.task l m up back

    at_back : AreAlikeOf two one n
    at_back m d e run task index p q given = sym (at m e d run task index q p (sym given))

    go : (a : Option Entry) → one n ≡ a → (b : Option Entry) → two n ≡ b → one n ≡ two n
    go None e None f = e ∙ sym f
    go (Some d) e b f = e ∙ sym (entry_forth dag runs one two first second n at same d e)
    go None e (Some d) f = entry_forth dag runs two one second first n at_back (λ l m. sym (same l m)) d f ∙ sym f
