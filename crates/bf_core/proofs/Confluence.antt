-- Two outcomes whose ledgers are alike are equal.
use Rattle.std.proofs.Common.{◌≡◌, ℕ, suc, zero, ◌+◌, ◌<◌, ◌≤◌, Bool, true, false, List, [], ◌∷◌, length, Option, None, Some, slice_get, refl, sym, ap, ap₂, ◌∙◌, arith, ext_get_or, slice_index_or}
use Rattle.std.specs.FinMap as map
use Rattle.bf_core.specs.Terms.{Verdict, Cell, Phase, RunPhase, Run, name_cmp, Dag, task_of, Given, Outcome, Entry, JobName, Ledger, TaskResult, result_of, name_of, outcome_at, outcome_of, last_try, TaskValue, IsOneOf, IsSettledAncestor, Direct, Above, IsSound, State, AreAlike}
use Rattle.bf_value.specs.inner.Names.{name_cmp_total, name_cmp-IsAntisymmetric}
use Rattle.bf_core.specs.Deciding.{Seen, settled, Decision, past_after, after_verdict, task_verdict_of, decision}
use Rattle.bf_core.specs.Recursion.{out, before, decided, value_of, results_from, Asks, IsDefined}
use Rattle.bf_core.proofs.Shape.{IsShaped, row_in}
use Rattle.bf_core.specs.Events.{HasEnded, no_run, phase_in, cell_in, entry_in, cell_at, place_in}
use Rattle.bf_core.specs.Agreement.{final_cell, finished_from, HoldsItsTries, IsOutcome}
use Rattle.bf_core.proofs.Attempts.{last_try_same, last_try_from}
use Rattle.bf_core.proofs.Depth.{decision_cong, out_is, pick, pull_below}

pub ancestor_in : (dag : Dag) (sound : IsSound dag) (t a : ℕ) → IsSettledAncestor dag t a → a < length dag.tasks
ancestor_in dag sound t a (Direct w h) = sound.in_range t a h
ancestor_in dag sound t a (Above {u = u} w h above) = ancestor_in dag sound u a above

-- the two are alike at the tries of a task in a run
abbrev pub AreAlikeAt : Dag → Ledger → Ledger → ℕ → ℕ → Type 0
AreAlikeAt dag one two k t =
    (i a : ℕ) (d e : Entry) → one (name_of dag k t i a) ≡ Some d → two (name_of dag k t i a) ≡ Some e → d.given ≡ e.given → d.outcome ≡ e.outcome

-- tasks in runs that have all that they look at among them: upstreams, and the previous run where they depend on it
pub record IsClosed (dag : Dag) (Kept : ℕ → ℕ → Type 0) : Type 0 where
  pub up : (k t u : ℕ) → Kept k t → IsOneOf (task_of dag t).upstreams u → Kept k u
  pub back : (k t : ℕ) → Kept (suc k) t → (task_of dag t).depends_on_past ≡ true → Kept k t

ancestor_kept : (dag : Dag) (Kept : ℕ → ℕ → Type 0) → IsClosed dag Kept → (k t a : ℕ) → IsSettledAncestor dag t a → Kept k t → Kept k a
ancestor_kept dag Kept closed k t a (Direct w h) kept = closed.up k t a kept h
ancestor_kept dag Kept closed k t a (Above {u = u} w h above) kept = ancestor_kept dag Kept closed k u a above (closed.up k t u kept h)

-- a task that doesn't depend on its past is decided without it
past_free : (dag : Dag) (k t : ℕ) (p q : Option TaskValue) (v : Verdict) → (task_of dag t).depends_on_past ≡ false → past_after (task_of dag t).depends_on_past k p v ≡ past_after (task_of dag t).depends_on_past k q v
past_free dag k t p q Verdict.Run e = rw e
past_free dag k t p q Verdict.Wait e = refl
past_free dag k t p q _ e = refl

decision_free : (dag : Dag) (k : ℕ) (seen : ℕ → Seen) (p q : Option TaskValue) (t : ℕ) → (task_of dag t).depends_on_past ≡ false → decision dag k seen p t ≡ decision dag k seen q t
unfolding decision task_verdict_of
decision_free dag k seen p q t e = ap (after_verdict dag seen t) (past_free dag k t p q _ e)

-- the tries that the recursion asks for of an instance, over a ledger that has them
abbrev HasTries : Dag → Ledger → ℕ → ℕ → ℕ → Given → Type 0
HasTries dag ledger k t i given =
    (a : ℕ) → 1 ≤ a → a ≤ (result_of dag ledger k t i).tries → (o : Outcome) × (ledger (name_of dag k t i a) ≡ Some (record { given = given; outcome = o }))

result_same : (dag : Dag) (one two : Ledger) (k t : ℕ) → AreAlikeAt dag one two k t → (i : ℕ) (given : Given) → HasTries dag one k t i given → HasTries dag two k t i given →
    result_of dag one k t i ≡ result_of dag two k t i
unfolding result_of
result_same dag one two k t alike i given has_one has_two =
    λ j. record { outcome = outcomes j; tries = at j }
  where
    f : ℕ → Outcome
    f = outcome_at dag one k t i

    g : ℕ → Outcome
    g = outcome_at dag two k t i

    same : (b : ℕ) → 1 ≤ b → b ≤ last_try f 1 (task_of dag t).retries → b ≤ last_try g 1 (task_of dag t).retries → f b ≡ g b
    same b l m n =
        let d : _ = has_one b l m in
        let e : _ = has_two b l n in
        ap outcome_of d.1 ∙ (alike i b _ _ d.1 e.1 refl ∙ sym (ap outcome_of e.1))

    at : last_try f 1 (task_of dag t).retries ≡ last_try g 1 (task_of dag t).retries
    at = last_try_same f g 1 (task_of dag t).retries same

    outcomes : f (last_try f 1 (task_of dag t).retries) ≡ g (last_try g 1 (task_of dag t).retries)
    outcomes = same (last_try f 1 (task_of dag t).retries) (last_try_from f 1 (task_of dag t).retries) (omega arith) (omega (arith, at)) ∙ ap g at

results_same : (p q : ℕ → TaskResult) (from : ℕ) (gs : List Given) → ((i : ℕ) (g : Given) → slice_get gs i ≡ Some g → p (from + i) ≡ q (from + i)) →
    results_from p from gs ≡ results_from q from gs
results_same p q from [] same = refl
results_same p q from (g ∷ gs) same =
    let at : from + 0 ≡ from = omega arith in
    let first : p from ≡ q from = rw at at (same 0 g refl) in
    ap₂ (λ r rs. r ∷ rs) first (results_same p q (suc from) gs (λ i h e. let at : suc from + i ≡ from + suc i = omega arith in rw at (same (suc i) h e)))

value_same : (dag : Dag) (one two : Ledger) (k t : ℕ) (d : Decision) →
    ((gs : List Given) → d ≡ Decision.Instances gs → (i : ℕ) (g : Given) → slice_get gs i ≡ Some g → result_of dag one k t i ≡ result_of dag two k t i) →
    value_of dag one k t d ≡ value_of dag two k t d
value_same dag one two k t Decision.Skipped same = refl
value_same dag one two k t Decision.UpstreamFailed same = refl
value_same dag one two k t (Decision.Instances gs) same =
    ap TaskValue.Ran (results_same _ _ 0 gs (λ i g e. let at : 0 + i ≡ i = omega arith in rw at (same gs refl i g e)))
value_same dag one two k t Decision.Wait same = refl
value_same dag one two k t Decision.Blocked same = refl

finished_same : (p q : ℕ → TaskResult) (from : ℕ) (gs : List Given) → ((i : ℕ) (g : Given) → slice_get gs i ≡ Some g → p (from + i) ≡ q (from + i)) →
    finished_from p from gs ≡ finished_from q from gs
finished_same p q from [] same = refl
finished_same p q from (g ∷ gs) same =
    let at : from + 0 ≡ from = omega arith in
    let first : p from ≡ q from = rw at at (same 0 g refl) in
    ap₂ (λ r rs. record { given = g; attempt = r.tries; phase = Phase.Finished r.outcome } ∷ rs) first
    (finished_same p q (suc from) gs (λ i h e. let at : suc from + i ≡ from + suc i = omega arith in rw at (same (suc i) h e)))

final_same : (d : Decision) (p q : ℕ → TaskResult) → ((gs : List Given) → d ≡ Decision.Instances gs → (i : ℕ) (g : Given) → slice_get gs i ≡ Some g → p i ≡ q i) →
    final_cell d p ≡ final_cell d q
final_same Decision.Wait p q same = refl
final_same Decision.Blocked p q same = refl
final_same Decision.Skipped p q same = refl
final_same Decision.UpstreamFailed p q same = refl
final_same (Decision.Instances gs) p q same =
    ap Cell.Ran (finished_same p q 0 gs (λ i g e. let at : 0 + i ≡ i = omega arith in rw at (same gs refl i g e)))

module _ (dag : Dag) (sound : IsSound dag) (runs : ℕ) (one two : Ledger) (Kept : ℕ → ℕ → Type 0) (closed : IsClosed dag Kept) (alike : (k t : ℕ) → Kept k t → AreAlikeAt dag one two k t) (def_one : IsDefined dag runs one) (def_two : IsDefined dag runs two) where
  tries_of : (k t i : ℕ) (ledger : Ledger) → IsDefined dag runs ledger → k < runs → t < length dag.tasks → (gs : List Given) → decided dag ledger k t ≡ Decision.Instances gs →
      (g : Given) → slice_get gs i ≡ Some g → HasTries dag ledger k t i g
  tries_of k t i ledger def l m gs e g h a from to = def k t i a g l m (record { givens = gs; runs = e; is_one = h; from_first = from; to_last = to })

  -- what is made of equal decisions is equal
  made_same : (k t : ℕ) → Kept k t → k < runs → t < length dag.tasks → decided dag one k t ≡ decided dag two k t →
      (gs : List Given) → decided dag one k t ≡ Decision.Instances gs → (i : ℕ) (g : Given) → slice_get gs i ≡ Some g → result_of dag one k t i ≡ result_of dag two k t i
  made_same k t kept l m same gs e i g h =
      result_same dag one two k t (alike k t kept) i g (tries_of k t i one def_one l m gs e g h) (tries_of k t i two def_two l m gs (sym same ∙ e) g h)

  outs_same : (k t : ℕ) → Kept k t → k < runs → t < length dag.tasks → decided dag one k t ≡ decided dag two k t → out dag one k t ≡ out dag two k t
  outs_same k t kept l m same =
      out_is dag sound one k t
      ∙ (value_same dag one two k t (decided dag one k t) (made_same k t kept l m same)
      ∙ (ap (value_of dag two k t) same ∙ sym (out_is dag sound two k t)))

  -- by rank, in one run
  run_same : (k : ℕ) → k < runs → ((t : ℕ) → Kept k t → t < length dag.tasks → (task_of dag t).depends_on_past ≡ true → before dag one k t ≡ before dag two k t) →
      (depth t : ℕ) → Kept k t → sound.rank t < depth → t < length dag.tasks → decided dag one k t ≡ decided dag two k t
  unfolding decided
  run_same k l past zero t kept below m = absurd (omega (arith, below))
  run_same k l past (suc depth) t kept below m =
      decision_cong dag k _ _ (Some (before dag one k t)) t sound
      (λ u h. ap settled (outs_same k u (closed.up k t u kept h) l (sound.in_range t u h) (run_same k l past depth u (closed.up k t u kept h) (under (sound.rises t u h)) (sound.in_range t u h))))
      (λ p h. ap settled (outs_same k p (pull_kept p h) l (pull_in p h) (run_same k l past depth p (pull_kept p h) (under (pull_below dag sound t p h)) (pull_in p h))))
      ∙ go (task_of dag t).depends_on_past refl
    where
      under : {r : ℕ} → r < sound.rank t → r < depth
      under h = omega arith

      ancestor : (p : ℕ) → IsOneOf (task_of dag t).pulls p → IsSettledAncestor dag t p
      ancestor p h = pick (IsSettledAncestor dag t) (task_of dag t).pulls p (sound.pulls_settled t) h

      pull_in : (p : ℕ) → IsOneOf (task_of dag t).pulls p → p < length dag.tasks
      pull_in p h = ancestor_in dag sound t p (ancestor p h)

      pull_kept : (p : ℕ) → IsOneOf (task_of dag t).pulls p → Kept k p
      pull_kept p h = ancestor_kept dag Kept closed k t p (ancestor p h) kept

      go : (b : Bool) → (task_of dag t).depends_on_past ≡ b →
          decision dag k (λ u. settled (out dag two k u)) (Some (before dag one k t)) t ≡ decision dag k (λ u. settled (out dag two k u)) (Some (before dag two k t)) t
      go true e = ap (λ v. decision dag k (λ u. settled (out dag two k u)) (Some v) t) (past t kept m e)
      go false e = decision_free dag k _ _ _ t e

  -- by date
  before_same : (k : ℕ) → k < runs → (t : ℕ) → Kept k t → t < length dag.tasks → (task_of dag t).depends_on_past ≡ true → before dag one k t ≡ before dag two k t
  unfolding before
  before_same zero l t kept m e = refl
  before_same (suc k) l t kept m e =
      let earlier : k < runs = omega arith in
      let was : Kept k t = closed.back k t kept e in
      outs_same k t was earlier m (run_same k earlier (before_same k earlier) (suc (sound.rank t)) t was (omega arith) m)

  -- what the recursion makes of a task rests on the entries of what it looks at alone
  pub decided_alike : (k t : ℕ) → Kept k t → k < runs → t < length dag.tasks → decided dag one k t ≡ decided dag two k t
  decided_alike k t kept l m = run_same k l (before_same k l) (suc (sound.rank t)) t kept (omega arith) m

  -- what one ledger is asked for, the other has, and it is the same
  entry_alike : (n : JobName) (e : Entry) → Kept n.run n.task → n.run < runs → n.task < length dag.tasks → n ≡ name_of dag n.run n.task (place_in dag n) n.attempt → Asks dag one n.run n.task (place_in dag n) n.attempt e.given → one n ≡ Some e → two n ≡ Some e
  entry_alike n e kept l m name asks h =
      let same : decided dag one n.run n.task ≡ decided dag two n.run n.task = decided_alike n.run n.task kept l m in
      let result : result_of dag one n.run n.task (place_in dag n) ≡ result_of dag two n.run n.task (place_in dag n) = made_same n.run n.task kept l m same asks.givens asks.runs (place_in dag n) e.given asks.is_one in
      let found : _ = def_two n.run n.task (place_in dag n) n.attempt e.given l m (record { givens = asks.givens; runs = sym same ∙ asks.runs; is_one = asks.is_one; from_first = asks.from_first; to_last = rw (← result) asks.to_last }) in
      let outcome : e.outcome ≡ found.0 = alike n.run n.task kept (place_in dag n) n.attempt e _ (ap one (sym name) ∙ h) found.1 refl in
      ap two name ∙ (found.1 ∙ ap (λ o. Some (record { given = e.given; outcome = o })) (sym outcome))

all_kept : (dag : Dag) → IsClosed dag (λ k t. Unit {0})
all_kept dag = record { up = λ k t u a b. tt; back = λ k t a b. tt }

everywhere : (dag : Dag) (one two : Ledger) → AreAlike one two → (k t : ℕ) → Unit {0} → AreAlikeAt dag one two k t
everywhere dag one two alike k t kept i a d e p q g = alike _ d e p q g

-- the same the other way round
alike_at_back : (dag : Dag) (one two : Ledger) (k t : ℕ) → AreAlikeAt dag one two k t → AreAlikeAt dag two one k t
alike_at_back dag one two k t alike i a d e first second given = sym (alike i a e d second first (sym given))

-- two ledgers that hold their tries, and are alike within a closed set, have equal entries there
pub entries_same : (dag : Dag) → IsSound dag → (runs : ℕ) (one two : Ledger) (Kept : ℕ → ℕ → Type 0) → IsClosed dag Kept → ((k t : ℕ) → Kept k t → AreAlikeAt dag one two k t) →
    HoldsItsTries dag runs one → HoldsItsTries dag runs two → (n : JobName) → Kept n.run n.task → one n ≡ two n
entries_same dag sound runs one two Kept closed alike first second n kept = go (one n) refl (two n) refl
  where
    back : (k t : ℕ) → Kept k t → AreAlikeAt dag two one k t
    back k t h = alike_at_back dag one two k t (alike k t h)

    go : (a : Option Entry) → one n ≡ a → (b : Option Entry) → two n ≡ b → one n ≡ two n
    go None e None f = e ∙ sym f
    go (Some d) e b f =
        let a : _ = first.asked n d e in
        e ∙ sym (entry_alike dag sound runs one two Kept closed alike first.defined second.defined n d kept a.0 a.1 a.2 a.3 e)
    go None e (Some d) f =
        let a : _ = second.asked n d f in
        entry_alike dag sound runs two one Kept closed back second.defined first.defined n d kept a.0 a.1 a.2 a.3 f ∙ sym f

-- and are one
pub tries_same : (dag : Dag) → IsSound dag → (runs : ℕ) (one two : map.FinMap name_cmp Entry) → HoldsItsTries dag runs (map.get one) → HoldsItsTries dag runs (map.get two) → AreAlike (map.get one) (map.get two) → one ≡ two
tries_same dag sound runs one two first second alike =
    map.same_map name_cmp_total name_cmp-IsAntisymmetric one two
    (λ n. entries_same dag sound runs (map.get one) (map.get two) (λ k t. Unit {0}) (all_kept dag) (everywhere dag _ _ alike) first second n tt)

-- two states that are outcomes of one plan, and whose ledgers are alike, have one ledger
pub ledgers_same : (dag : Dag) → IsSound dag → (runs : ℕ) (s t : State) → IsOutcome dag runs s → IsOutcome dag runs t → AreAlike (entry_in s.ledger) (entry_in t.ledger) →
    s.ledger ≡ t.ledger
ledgers_same dag sound runs s t one two alike = tries_same dag sound runs s.ledger t.ledger one.tries two.tries alike

-- and equal cells
pub cells_equal : (dag : Dag) → IsSound dag → (runs : ℕ) (s t : State) → IsOutcome dag runs s → IsOutcome dag runs t → AreAlike (entry_in s.ledger) (entry_in t.ledger) →
    (k u : ℕ) → k < runs → u < length dag.tasks → cell_at s k u ≡ cell_at t k u
cells_equal dag sound runs s t one two alike k u l m =
    one.cells k u l m
    ∙ (final_same (decided dag (entry_in s.ledger) k u) _ _ (made_same dag sound runs _ _ (λ k t. Unit {0}) (all_kept dag) (everywhere dag _ _ alike) one.tries.defined two.tries.defined k u tt l m same)
    ∙ (ap (λ d. final_cell d (result_of dag (entry_in t.ledger) k u)) same ∙ sym (two.cells k u l m)))
  where
    same : decided dag (entry_in s.ledger) k u ≡ decided dag (entry_in t.ledger) k u
    same = decided_alike dag sound runs _ _ (λ k t. Unit {0}) (all_kept dag) (everywhere dag _ _ alike) one.tries.defined two.tries.defined k u tt l m

same_phase : (a b : RunPhase) → a ≡ RunPhase.Closed → b ≡ RunPhase.Closed → a ≡ b
same_phase a b p q = p ∙ sym q

row_same : (a b : Run) → a.phase ≡ b.phase → a.cells ≡ b.cells → a ≡ b
row_same a b p q = λ i. record { phase = p i; cells = q i }

-- and the states are one
pub states_equal : (dag : Dag) → IsSound dag → (runs : ℕ) (s t : State) → IsShaped dag runs s → IsShaped dag runs t → HasEnded s → HasEnded t →
    IsOutcome dag runs s → IsOutcome dag runs t → AreAlike (entry_in s.ledger) (entry_in t.ledger) → s ≡ t
unfolding phase_in row_in cell_in
states_equal dag sound runs s t shape_s shape_t over_s over_t one two alike =
    λ i. record { runs = runs_same i; ledger = ledgers_same dag sound runs s t one two alike i }
  where
    at : (k : ℕ) → k < runs → slice_index_or s.runs k no_run ≡ slice_index_or t.runs k no_run
    at k l = row_same _ _
        (same_phase _ _ (over_s k (rw shape_s.count l)) (over_t k (rw shape_t.count l)))
        (ext_get_or Cell.Undecided _ _ (shape_s.rows k l ∙ sym (shape_t.rows k l))
        (λ u m. cells_equal dag sound runs s t one two alike k u l (rw (← shape_s.rows k l) m)))

    runs_same : s.runs ≡ t.runs
    runs_same = ext_get_or no_run _ _ (shape_s.count ∙ sym shape_t.count) (λ k l. at k (rw (← shape_s.count) l))
