-- Marks of what follows from the seeds.
use Rattle.std.proofs.Common.{◌≡◌, ◌⊎◌, ◌↔◌, ◌&&◌, ◌||◌, ◌==◌, if◌then◌else◌, nat_lt, true≢false, inl, inr, ℕ, zero, suc, ◌<◌, ◌≤◌, ◌+◌, List, [], ◌∷◌, ◌++◌, length, take, Bool, true, false, Some, slice_get, slice_index_or, slice_set, refl, sym, ap, ◌∙◌, subst, arith}
use Rattle.std.specs.List.{list_any}
use Rattle.std.proofs.Math.ListN.{get_or-append}
use Rattle.std.proofs.Math.Nat.{eq-or-lt_of_le}
use Rattle.std.proofs.Math.Seq.{get_or-append_seam}
use Rattle.std.proofs.lemmas.Bool.{and_parts, and_from, cases_eq, lt-ltb, ltb-true, or_cases, or_left, or_right}
use Rattle.std.proofs.lemmas.List.{length-append, get_or-set_same, get_or-set_other, length-set, length-map}
use Rattle.std.proofs.lemmas.List.Folds.{list_any_more}
use Rattle.std.proofs.lemmas.Option.{slice_get-get_or, slice_get_within}
use Rattle.bf_graph.specs.Order.{IsByRank, StandBehind}
use Rattle.bf_graph.specs.Reach.{is_marked_in, row_at}
use Rattle.bf_plan.specs.declared.plan.Dag.{Dag}
use Rattle.bf_plan.specs.declared.plan.Task.{Task}
use Rattle.bf_plan.specs.Plans.{shape_of, task_of}
use Rattle.bf_plan.specs.Sound.{IsOneOf}
use Rattle.bf_plan.proofs.PlanLemmas.{is_upstream}
use Rattle.bf_dependents.specs.declared.place.Place.{Place}
use Rattle.bf_dependents.specs.Marks.{is_of, follows_in, marks_before_in}
use Rattle.bf_dependents.specs.inner.Marks.{with_mark, AreMarks, AreMarksFor, ArePast, AreSeeded, AreTouched, IsSeedRow, IsTouched, WasTouched}

-- so far the marks are right of the tasks before place i of the order
pub record AreMarksTo (dag : Dag) (seeds : List Place) (k : ℕ) (order : List ℕ) (i : ℕ) (marks : List Bool) : Type 0 where
  pub len : length marks ≡ length dag.tasks
  pub right : (j t : ℕ) → j < i → slice_get order j ≡ Some t → (is_marked_in marks t ≡ true) ↔ IsTouched dag seeds k t

-- whatever seeds these rows are of, so far the marks are right
abbrev pub AreMarksForTo : Dag → List Bool → List Bool → List ℕ → ℕ → List Bool → Type 0
AreMarksForTo dag seeded before order i marks = (seeds : List Place) (k : ℕ) → IsSeedRow seeds (length dag.tasks) k seeded → ArePast dag seeds k before → AreMarksTo dag seeds k order i marks

same_or_before : (j n : ℕ) → j < n + 1 → (j ≡ n) ⊎ (j < n)
same_or_before j n l = let low : j ≤ n = omega (arith, l) in eq-or-lt_of_le low

-- ---- what marks a task

pub of_parts : (k t : ℕ) (p : Place) → is_of k t p ≡ true → (k ≡ p.run) × (t ≡ p.task)
of_parts k t p e =
    let both : _ = and_parts (p.run == k) (p.task == t) e in
    let run : k ≡ p.run = grind (arith, both.0) in
    let task : t ≡ p.task = grind (arith, both.1) in
    (run, task)

pub of_itself : (k t : ℕ) (p : Place) → k ≡ p.run → t ≡ p.task → is_of k t p ≡ true
of_itself k t p e f = and_from (p.run == k) (p.task == t) (grind (arith, e)) (grind (arith, f))

-- ---- one seed more

module _ (seeds : List Place) (i runs tasks : ℕ) (rows : List (List Bool)) (p : Place) (l : i < length seeds) (here : p ≡ slice_index_or seeds i p) (are : AreSeeded (take i seeds) runs tasks rows) where
  one_more : (k t : ℕ) → list_any (is_of k t) (take (i + 1) seeds) ≡ (list_any (is_of k t) (take i seeds) || is_of k t p)
  one_more k t = list_any_more (is_of k t) seeds i p l ∙ ap (λ q. list_any (is_of k t) (take i seeds) || is_of k t q) (sym here)

  -- where the seed is another, the answer stays
  other : (k t : ℕ) (mark : Bool) → mark ≡ list_any (is_of k t) (take i seeds) → is_of k t p ≡ false → mark ≡ list_any (is_of k t) (take (i + 1) seeds)
  other k t mark e f = e ∙ stays (list_any (is_of k t) (take i seeds)) ∙ ap (λ b. list_any (is_of k t) (take i seeds) || b) (sym f) ∙ sym (one_more k t)
    where
      stays : (b : Bool) → b ≡ (b || false)
      stays true = refl
      stays false = refl

  apart : (k t : ℕ) → (k ≡ p.run → t ≡ p.task → ⊥) → is_of k t p ≡ false
  apart k t differs = go (is_of k t p) refl
    where
      go : (b : Bool) → is_of k t p ≡ b → b ≡ false
      go true e = let same : _ = of_parts k t p e in absurd (differs same.0 same.1)
      go false e = refl

  found : (k t : ℕ) → k ≡ p.run → t ≡ p.task → list_any (is_of k t) (take (i + 1) seeds) ≡ true
  found k t e f = one_more k t ∙ or_right (list_any (is_of k t) (take i seeds)) (is_of k t p) (of_itself k t p e f)

  abbrev is_there : Bool
  is_there = nat_lt p.run (length rows) && nat_lt p.task (length (row_at rows p.run))

  unmarked_still : is_there ≡ false → AreSeeded (take (i + 1) seeds) runs tasks rows
  unmarked_still e = record {
    len = are.len;
    each = are.each;
    right = λ k h t low. other k t _ (are.right k h t low) (apart k t (λ r s.
        let wide = are.each k h in
        let inside : p.run < length rows = omega (arith, h, are.len, r) in
        let row : p.task < length (row_at rows p.run) = rw (← r) (omega (arith, low, wide, s)) in
        true≢false (sym (and_from (nat_lt p.run (length rows)) (nat_lt p.task (length (row_at rows p.run))) (lt-ltb p.run (length rows) inside) (lt-ltb p.task (length (row_at rows p.run)) row)) ∙ e)));
  }

  marked_more : is_there ≡ true → AreSeeded (take (i + 1) seeds) runs tasks (slice_set rows p.run (slice_set (row_at rows p.run) p.task true))
  marked_more e = record {
    len = length-set rows p.run row ∙ are.len;
    each = λ k h. go_each k h (same_or_other k);
    right = λ k h t low. go_right k h t low (same_or_other k);
  }
    where
      row : List Bool
      row = slice_set (row_at rows p.run) p.task true

      both : (nat_lt p.run (length rows) ≡ true) × (nat_lt p.task (length (row_at rows p.run)) ≡ true)
      both = and_parts (nat_lt p.run (length rows)) (nat_lt p.task (length (row_at rows p.run))) e

      inside : p.run < length rows
      inside = ltb-true p.run (length rows) both.0

      same_or_other : (k : ℕ) → (k ≡ p.run) ⊎ (k ≡ p.run → ⊥)
      same_or_other k = cases_eq k p.run

      kept : (k : ℕ) → (k ≡ p.run → ⊥) → row_at (slice_set rows p.run row) k ≡ row_at rows k
      kept k differs = get_or-set_other rows p.run k row [] differs

      now : row_at (slice_set rows p.run row) p.run ≡ row
      now = get_or-set_same rows p.run row [] inside

      go_each : (k : ℕ) → k < runs → (k ≡ p.run) ⊎ (k ≡ p.run → ⊥) → length (row_at (slice_set rows p.run row) k) ≡ tasks
      go_each k h (inl r) = ap (λ n. length (row_at (slice_set rows p.run row) n)) r ∙ ap length now ∙ length-set (row_at rows p.run) p.task true ∙ are.each p.run (rw (← r) h)
      go_each k h (inr differs) = ap length (kept k differs) ∙ are.each k h

      go_right : (k : ℕ) → k < runs → (t : ℕ) → t < tasks → (k ≡ p.run) ⊎ (k ≡ p.run → ⊥) → is_marked_in (row_at (slice_set rows p.run row) k) t ≡ list_any (is_of k t) (take (i + 1) seeds)
      go_right k h t low (inr differs) = other k t _ (ap (λ r. is_marked_in r t) (kept k differs) ∙ are.right k h t low) (apart k t (λ r s. differs r))
      go_right k h t low (inl r) = ap (λ n. is_marked_in (row_at (slice_set rows p.run row) n) t) r ∙ ap (λ m. is_marked_in m t) now ∙ in_row (cases_eq t p.task)
        where
          in_row : (t ≡ p.task) ⊎ (t ≡ p.task → ⊥) → is_marked_in row t ≡ list_any (is_of k t) (take (i + 1) seeds)
          in_row (inl s) = ap (is_marked_in row) s ∙ get_or-set_same (row_at rows p.run) p.task true false (ltb-true p.task (length (row_at rows p.run)) both.1) ∙ sym (found k t r s)
          in_row (inr differs) = other k t _ (get_or-set_other (row_at rows p.run) p.task t true false differs ∙ ap (λ n. is_marked_in (row_at rows n) t) (sym r) ∙ are.right k h t low) (apart k t (λ r s. differs s))

  pub seeded_more : AreSeeded (take (i + 1) seeds) runs tasks (with_mark rows p)
  seeded_more = go is_there refl
    where
      go : (b : Bool) → is_there ≡ b → AreSeeded (take (i + 1) seeds) runs tasks (if b then slice_set rows p.run (slice_set (row_at rows p.run) p.task true) else rows)
      go true e = marked_more e
      go false e = unmarked_still e

pub one_marked : (marks : List Bool) (us : List ℕ) → list_any (is_marked_in marks) us ≡ true → (u : ℕ) × IsOneOf us u × (is_marked_in marks u ≡ true)
one_marked marks [] e = cc
one_marked marks (u ∷ us) e = elim (or_cases (is_marked_in marks u) (list_any (is_marked_in marks) us) e) [
  | inl h ↦ (u, inl refl, h)
  | inr h ↦ let rest : _ = one_marked marks us h in (rest.0, inr rest.1, rest.2)
]

pub marked_one : (marks : List Bool) (us : List ℕ) (u : ℕ) → IsOneOf us u → is_marked_in marks u ≡ true → list_any (is_marked_in marks) us ≡ true
marked_one marks [] u one h = absurd one
marked_one marks (v ∷ us) u (inl e) h = or_left (is_marked_in marks v) _ (ap (is_marked_in marks) (sym e) ∙ h)
marked_one marks (v ∷ us) u (inr one) h = or_right (is_marked_in marks v) _ (marked_one marks us u one h)

module _ (dag : Dag) (seeds : List Place) (k : ℕ) (seeded before : List Bool) (row : IsSeedRow seeds (length dag.tasks) k seeded) (past : ArePast dag seeds k before) (t : ℕ) (there : t < length dag.tasks) (marks : List Bool)
    (ups : (u : ℕ) → IsOneOf (task_of dag t).upstreams u → (is_marked_in marks u ≡ true) ↔ IsTouched dag seeds k u) where
  followed : follows_in dag t seeded before marks ≡ true → IsTouched dag seeds k t
  followed e = elim (or_cases (is_marked_in seeded t) _ e) [
    | inl h ↦ IsTouched.Seed (sym (row t there) ∙ h)
    | inr h ↦ elim (or_cases ((task_of dag t).depends_on_past && is_marked_in before t) _ h) [
      | inl g ↦ let both : _ = and_parts (task_of dag t).depends_on_past (is_marked_in before t) g in next k ((past t there).0 both.1) both.0
      | inr g ↦ let one : _ = one_marked marks (task_of dag t).upstreams g in IsTouched.Downstream one.1 ((ups one.0 one.1).0 one.2)
    ]
  ]
    where
      next : (j : ℕ) → WasTouched dag seeds j t → (task_of dag t).depends_on_past ≡ true → IsTouched dag seeds j t
      next zero w d = absurd w
      next (suc j) w d = IsTouched.NextRun d w

  past_of : (j : ℕ) → k ≡ suc j → IsTouched dag seeds j t → WasTouched dag seeds k t
  past_of j e d = subst (λ (n : ℕ). WasTouched dag seeds n t) (sym e) d

  -- why a task follows from the seeds
  following : (n s : ℕ) → n ≡ k → s ≡ t → IsTouched dag seeds n s → follows_in dag t seeded before marks ≡ true
  following n s e f (IsTouched.Seed c) =
      or_left _ _ (row t there ∙ (ap (λ (m : ℕ). list_any (is_of m t) seeds) (sym e) ∙ (ap (λ (s : ℕ). list_any (is_of n s) seeds) (sym f) ∙ c)))
  following n s e f (IsTouched.Downstream {u = u} h d) =
      let one : IsOneOf (task_of dag t).upstreams u = subst (λ (s : ℕ). IsOneOf (task_of dag s).upstreams u) f h in
      or_right (is_marked_in seeded t) _ (or_right ((task_of dag t).depends_on_past && is_marked_in before t) _
      (marked_one marks (task_of dag t).upstreams u one ((ups u one).1 (subst (λ (n : ℕ). IsTouched dag seeds n u) e d))))
  following (suc n) s e f (IsTouched.NextRun h d) =
      or_right (is_marked_in seeded t) _ (or_left ((task_of dag t).depends_on_past && is_marked_in before t) _
      (and_from _ _ (ap (λ s. (task_of dag s).depends_on_past) (sym f) ∙ h) ((past t there).1 (past_of n (sym e) (subst (IsTouched dag seeds n) f d)))))

  pub follows_right : (follows_in dag t seeded before marks ≡ true) ↔ IsTouched dag seeds k t
  follows_right = (followed, following k t refl refl)

-- ---- in order

module _ (dag : Dag) (order : List ℕ) (ranked : IsByRank (shape_of dag).upstreams order) (behind : StandBehind (shape_of dag).upstreams order) where
  pub task_within : (i : ℕ) → i < length order → slice_index_or order i 0 < length dag.tasks
  task_within i l =
      let low : _ = ranked.tasks i (slice_index_or order i 0) (slice_get-get_or order i 0 l) in
      omega (arith, low, length-map dag.tasks (λ (task : Task). task.upstreams))

  module _ (seeded before : List Bool) where
    pub marks_more : (i : ℕ) → i < length order → (marks : List Bool) → AreMarksForTo dag seeded before order i marks → (mark : Bool) →
        mark ≡ follows_in dag (slice_index_or order i 0) seeded before marks →
        AreMarksForTo dag seeded before order (i + 1) (slice_set marks (slice_index_or order i 0) mark)
    marks_more i l marks far mark is seeds k row past = record {
      len = length-set marks t mark ∙ at.len;
      right = λ j s below e. go j s e (same_or_before j i below);
    }
      where
        at : AreMarksTo dag seeds k order i marks
        at = far seeds k row past

        t : ℕ
        t = slice_index_or order i 0

        here : slice_get order i ≡ Some t
        here = slice_get-get_or order i 0 l

        ups : (u : ℕ) → IsOneOf (task_of dag t).upstreams u → (is_marked_in marks u ≡ true) ↔ IsTouched dag seeds k u
        ups u one = let place : _ = behind i t u here (is_upstream dag t u one) in at.right place.0 u place.1 place.2

        marked : (is_marked_in (slice_set marks t mark) t ≡ true) ↔ IsTouched dag seeds k t
        marked =
            let now : is_marked_in (slice_set marks t mark) t ≡ follows_in dag t seeded before marks = get_or-set_same marks t mark false (rw at.len (task_within i l)) ∙ is in
            let right : _ = follows_right dag seeds k seeded before row past t (task_within i l) marks ups in
            (λ e. right.0 (sym now ∙ e), λ d. now ∙ right.1 d)

        go : (j s : ℕ) → slice_get order j ≡ Some s → (j ≡ i) ⊎ (j < i) → (is_marked_in (slice_set marks t mark) s ≡ true) ↔ IsTouched dag seeds k s
        go j s e (inl same) =
            let both : Some s ≡ Some t = sym e ∙ (ap (slice_get order) same ∙ here) in
            let task : s ≡ t = cc in
            subst (λ (s : ℕ). (is_marked_in (slice_set marks t mark) s ≡ true) ↔ IsTouched dag seeds k s) (sym task) marked
        go j s e (inr low) =
            let apart : s ≡ t → ⊥ = λ same. let at_one : j ≡ i = ranked.once j i t (e ∙ ap Some same) here in omega (arith, at_one, low) in
            let kept : is_marked_in (slice_set marks t mark) s ≡ is_marked_in marks s = get_or-set_other marks t s mark false apart in
            (λ h. (at.right j s low e).0 (sym kept ∙ h), λ d. kept ∙ (at.right j s low e).1 d)

    pub marks_end : (marks : List Bool) (i : ℕ) → i ≡ length order → AreMarksForTo dag seeded before order i marks → AreMarksFor dag seeded before marks
    marks_end marks i over far seeds k row past = record {
      len = at.len;
      right = λ t l. let place : _ = ranked.all t (omega (arith, l, length-map dag.tasks (λ (task : Task). task.upstreams))) in
          at.right place.0 t (rw over (slice_get_within order place.0 t place.1)) place.1;
    }
      where
        at : AreMarksTo dag seeds k order i marks
        at = far seeds k row past

-- ---- run by run

pub past_of_runs : (dag : Dag) (seeds : List Place) (k : ℕ) (rows : List (List Bool)) → AreTouched dag seeds k rows → ArePast dag seeds k (marks_before_in rows k)
past_of_runs dag seeds zero rows are t l = (λ e. cc, λ d. absurd d)
past_of_runs dag seeds (suc k) rows are t l = (are.each k (omega arith)).right t l

pub no_runs : (dag : Dag) (seeds : List Place) → AreTouched dag seeds 0 []
no_runs dag seeds = record { len = refl; each = λ k l. absurd (omega (arith, l)) }

pub one_run_more : (dag : Dag) (seeds : List Place) (k : ℕ) (rows : List (List Bool)) (marks : List Bool) → AreTouched dag seeds k rows → AreMarks dag seeds k marks →
    AreTouched dag seeds (k + 1) (rows ++ marks ∷ [])
one_run_more dag seeds k rows marks are is = record {
  len = omega (arith, are.len, length-append rows (marks ∷ []));
  each = λ j l. go j (same_or_before j k l);
}
  where
    seam : row_at (rows ++ marks ∷ []) k ≡ marks
    seam = ap (λ n. row_at (rows ++ marks ∷ []) n) (sym are.len) ∙ get_or-append_seam rows marks [] []

    go : (j : ℕ) → (j ≡ k) ⊎ (j < k) → AreMarks dag seeds j (row_at (rows ++ marks ∷ []) j)
    go j (inl same) = rw (same, seam) is
    go j (inr low) = rw (get_or-append rows (marks ∷ []) [] j (rw are.len low)) (are.each j low)

-- one run more, by the row of its seeds
pub one_row_more : (dag : Dag) (seeds : List Place) (runs k : ℕ) (seeded rows : List (List Bool)) (marks : List Bool) → AreSeeded seeds runs (length dag.tasks) seeded → k < runs →
    AreTouched dag seeds k rows → AreMarksFor dag (row_at seeded k) (marks_before_in rows k) marks → AreTouched dag seeds (k + 1) (rows ++ marks ∷ [])
one_row_more dag seeds runs k seeded rows marks are l so_far made =
    one_run_more dag seeds k rows marks so_far (made seeds k (are.right k l) (past_of_runs dag seeds k rows so_far))

pub behind_read : (ups vps : List (List ℕ)) (order slice : List ℕ) → ups ≡ vps → slice ≡ order → StandBehind ups order → StandBehind vps slice
behind_read ups vps order slice same read behind = subst (λ (xs : List ℕ). StandBehind vps xs) (sym read) (subst (λ (xs : List (List ℕ)). StandBehind xs order) same behind)

pub made_read : (dag planned : Dag) (seeded row before past marks : List Bool) → dag ≡ planned → seeded ≡ row → before ≡ past → AreMarksFor dag seeded before marks → AreMarksFor planned row past marks
made_read dag planned seeded row before past marks same one two made =
    subst (λ (p : Dag × List Bool × List Bool). AreMarksFor p.0 p.1 p.2 marks) (λ i. (same i, one i, two i)) made
