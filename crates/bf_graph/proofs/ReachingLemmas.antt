-- The tasks that reach a task, gathered one after another.
use Rattle.std.proofs.Common.{◌≡◌, inl, inr, ℕ, zero, suc, ◌<◌, ◌≤◌, ◌+◌, List, [], ◌∷◌, ◌++◌, length, get_or, set, Contains, Bool, true, false, true≢false, refl, sym, ap, ◌∙◌, subst, arith, below_more, Vec, Global}
use Rattle.std.proofs.lemmas.Bool.{cases_lt}
use Rattle.std.proofs.lemmas.Bool.Decides.{eqb_tells}
use Rattle.std.proofs.lemmas.List.{get_or_default, get_or_read, get_or-set_same, get_or-set_other, get_or_append_left, length_push, length-set, length-map}
use Rattle.std.proofs.lemmas.List.Elements.{Contains-get_or, Contains-append_left, Contains-push, Contains-push_cases}
use Rattle.std.proofs.Math.Seq.{get_or-append_seam}
use Rattle.bf_graph.specs.Edges.{lists, upstreams_of, IsUpstream, AreInRange}
use Rattle.bf_graph.specs.Reach.{IsPath, Reaches, is_marked_in, IsRow}
use Rattle.bf_graph.specs.inner.Cycles.{unmarked_in, AreMarked, AreAdded, AreReaching}
use Rattle.bf_graph.proofs.PathLemmas.{edge_before, first_edge}

-- ---- marks

pub unmarked_in_set : (marks : List Bool) (t : ℕ) → t < length marks → get_or marks t false ≡ false → suc (unmarked_in (set marks t true)) ≡ unmarked_in marks
unmarked_in_set [] t h e = absurd (omega arith)
unmarked_in_set (false ∷ marks) zero h e = refl
unmarked_in_set (true ∷ marks) zero h e = absurd (true≢false e)
unmarked_in_set (false ∷ marks) (suc t) h e = ap suc (unmarked_in_set marks t (omega arith) e)
unmarked_in_set (true ∷ marks) (suc t) h e = unmarked_in_set marks t (omega arith) e

all_unmarked : (marks : List Bool) → ((t : ℕ) → get_or marks t false ≡ false) → unmarked_in marks ≡ length marks
all_unmarked [] clear = refl
all_unmarked (false ∷ marks) clear = ap suc (all_unmarked marks (λ t. clear (suc t)))
all_unmarked (true ∷ marks) clear = absurd (true≢false (clear zero))

pub none_marked : (marks : List Bool) → ((t : ℕ) → is_marked_in marks t ≡ false) → AreMarked [] marks
none_marked marks clear = record {
  marked = λ t. (λ e. absurd (true≢false (sym e ∙ clear t)), λ w. absurd (omega (arith, w.1)));
  once = omega (arith, all_unmarked marks clear);
}

pub one_marked : (found : List ℕ) (marks : List Bool) (t : ℕ) → AreMarked found marks → t < length marks → is_marked_in marks t ≡ false → AreMarked (found ++ t ∷ []) (set marks t true)
one_marked found marks t old h clear = record {
  marked = λ s. (forth s, back s);
  once = (let once = old.once in omega (arith, once, unmarked_in_set marks t h clear, length_push found t, length-set marks t true));
}
  where
    forth : (s : ℕ) → is_marked_in (set marks t true) s ≡ true → Contains (found ++ t ∷ []) s
    forth s e = elim (eqb_tells s t) [
      | inl (_, same) ↦ subst (Contains (found ++ t ∷ [])) (sym same) (Contains-push found t)
      | inr (_, other) ↦ Contains-append_left found (t ∷ []) s ((old.marked s).0 (sym (get_or-set_other marks t s true false other) ∙ e))
    ]

    back : (s : ℕ) → Contains (found ++ t ∷ []) s → is_marked_in (set marks t true) s ≡ true
    back s w = elim (eqb_tells s t) [
      | inl (_, same) ↦ ap (is_marked_in (set marks t true)) same ∙ get_or-set_same marks t true false h
      | inr (_, other) ↦ elim (Contains-push_cases found t s w) [
        | inl was ↦ get_or-set_other marks t s true false other ∙ (old.marked s).1 was
        | inr same ↦ absurd (other (sym same))
      ]
    ]

-- ---- tasks that are added

-- as AreAdded, for the first i
pub record AddsBelow (old tasks : List ℕ) (i : ℕ) (new : List ℕ) : Type 0 where
  pub longer : length old ≤ length new
  pub kept : (k : ℕ) → k < length old → get_or new k 0 ≡ get_or old k 0
  pub only : (k : ℕ) → length old ≤ k → k < length new → Contains tasks (get_or new k 0)
  pub all : (k : ℕ) → k < i → Contains new (get_or tasks k 0)

module _ (old tasks : List ℕ) (i : ℕ) (new : List ℕ) (so_far : AddsBelow old tasks i new) where
  pub one_there : Contains new (get_or tasks i 0) → AddsBelow old tasks (i + 1) new
  one_there here = record {
    longer = so_far.longer;
    kept = so_far.kept;
    only = so_far.only;
    all = below_more (λ k. Contains new (get_or tasks k 0)) i so_far.all here;
  }

  pub one_added : i < length tasks → AddsBelow old tasks (i + 1) (new ++ get_or tasks i 0 ∷ [])
  one_added within =
      let t = get_or tasks i 0 in
      let longer = so_far.longer in
      record {
        longer = omega (arith, longer, length_push new t);
        kept = λ k h. get_or_append_left new (t ∷ []) 0 k (omega (arith, h, longer)) ∙ so_far.kept k h;
        only = λ k low high. elim (cases_lt k (length new)) [
          | inl early ↦ subst (Contains tasks) (sym (get_or_append_left new (t ∷ []) 0 k early)) (so_far.only k low early)
          | inr late ↦
              let last : length new ≡ k = omega (arith, late, high, length_push new t) in
              subst (Contains tasks) (sym (get_or-append_seam new t [] 0) ∙ ap (λ j. get_or (new ++ t ∷ []) j 0) last) (Contains-get_or tasks i 0 within)
        ];
        all = below_more (λ k. Contains (new ++ t ∷ []) (get_or tasks k 0)) i (λ k h. Contains-append_left new (t ∷ []) _ (so_far.all k h)) (Contains-push new t);
      }

pub all_added : (old tasks : List ℕ) (i : ℕ) (new : List ℕ) → length tasks ≤ i → AddsBelow old tasks i new → AreAdded old tasks new
all_added old tasks i new h so_far = record {
  longer = so_far.longer;
  kept = so_far.kept;
  only = so_far.only;
  all = λ t (k, within, at). subst (Contains new) (get_or_default tasks k 0 t within ∙ at) (so_far.all k (omega (arith, within, h)));
}

-- ---- the tasks that reach t

pub record ReachesSoFar (ups : List (List ℕ)) (t done : ℕ) (found : List ℕ) : Type 0 where
  pub near : (k : ℕ) → k < length found → (n : ℕ) × (n ≤ k) × IsPath ups (get_or found k 0) (suc n) t
  pub direct : (u : ℕ) → IsUpstream ups u t → Contains found u
  pub closed : (k : ℕ) → k < done → (u : ℕ) → IsUpstream ups u (get_or found k 0) → Contains found u

-- a task that stays in
still_in : (old tasks new : List ℕ) → AreAdded old tasks new → (u : ℕ) → Contains old u → Contains new u
still_in old tasks new more u (k, h, at) =
    let longer = more.longer in
    subst (Contains new) (more.kept k h ∙ get_or_default old k 0 u h ∙ at) (Contains-get_or new k 0 (omega (arith, h, longer)))

pub direct_found : (ups : List (List ℕ)) (t : ℕ) (us found : List ℕ) → us ≡ upstreams_of ups t → AreAdded [] us found → ReachesSoFar ups t 0 found
direct_found ups t us found is more = record {
  near = λ k h. (0, omega arith, (get_or found k 0, (let P : List ℕ → Type 0 = λ xs. Contains xs (get_or found k 0) in subst P is (more.only k (omega arith) h)), refl));
  direct = λ u up. let P : List ℕ → Type 0 = λ xs. Contains xs u in more.all u (subst P (sym is) up);
  closed = λ k h. absurd (omega (arith, h));
}

pub one_done : (ups : List (List ℕ)) (t done : ℕ) (found us new : List ℕ) → done < length found → us ≡ upstreams_of ups (get_or found done 0) → AreAdded found us new → ReachesSoFar ups t done found → ReachesSoFar ups t (done + 1) new
one_done ups t done found us new within is more so_far = record {
  near = λ k h. elim (cases_lt k (length found)) [
    | inl early ↦ (let w = so_far.near k early in let P : ℕ → Type 0 = λ a. IsPath ups a (suc w.0) t in (w.0, w.1, subst P (sym (more.kept k early)) w.2))
    | inr late ↦ added k late h
  ];
  direct = λ u up. still_in found us new more u (so_far.direct u up);
  closed = below_more (λ k. (u : ℕ) → IsUpstream ups u (get_or new k 0) → Contains new u) done (λ k h u up.
      let P : ℕ → Type 0 = λ a. IsUpstream ups u a in
      still_in found us new more u (so_far.closed k h u (subst P (more.kept k (omega (arith, h, within))) up))) (λ u up.
      let P : ℕ → Type 0 = λ a. IsUpstream ups u a in
      let Q : List ℕ → Type 0 = λ xs. Contains xs u in
      more.all u (subst Q (sym is) (subst P (more.kept done within) up)));
}
  where
    added : (k : ℕ) → length found ≤ k → k < length new → (n : ℕ) × (n ≤ k) × IsPath ups (get_or new k 0) (suc n) t
    added k low high =
        let w = so_far.near done within in
        let Q : List ℕ → Type 0 = λ xs. Contains xs (get_or new k 0) in
        let up : IsUpstream ups (get_or new k 0) (get_or found done 0) = subst Q is (more.only k low high) in
        (suc w.0, omega (arith, w.1, within, low), edge_before ups (get_or new k 0) (get_or found done 0) (suc w.0) t up w.2)

pub all_reaching : (ups : List (List ℕ)) (t done : ℕ) (found : List ℕ) → length found ≤ done → ReachesSoFar ups t done found → AreReaching ups t found
all_reaching ups t done found h so_far = record { near = so_far.near; all = λ a (n, (u, up, p)). back a n u (so_far.direct u up) p }
  where
    back : (a n u : ℕ) → Contains found u → IsPath ups a n u → Contains found a
    back a zero u w same = subst (Contains found) (sym same) w
    back a (suc n) u (k, within, at) (v, up, p) =
        let P : ℕ → Type 0 = λ b. IsUpstream ups v b in
        let is : u ≡ get_or found k 0 = sym (get_or_default found k 0 u within ∙ at) in
        back a n v (so_far.closed k (omega (arith, within, h)) v (subst P is up)) p

-- marks on the tasks that reach t
pub marks_reaching : (ups : List (List ℕ)) (t n : ℕ) (found : List ℕ) (marks : List Bool) → length marks ≡ n → AreMarked found marks → AreReaching ups t found → IsRow ups n t marks
marks_reaching ups t n found marks len marked reaching = record {
  len = len;
  right = λ a h. (λ e. reaches a ((marked.marked a).0 e), λ w. (marked.marked a).1 (reaching.all a w));
}
  where
    reaches : (a : ℕ) → Contains found a → Reaches ups a t
    reaches a (k, h, at) =
        let w = reaching.near k h in
        let P : ℕ → Type 0 = λ b. IsPath ups b (suc w.0) t in
        (w.0, subst P (get_or_default found k 0 a h ∙ at) w.2)

-- the task at a place, as it is read
pub task_read : (es : List (Vec ℕ Global)) (t done : ℕ) (found : List ℕ) (x : ℕ) → AreInRange (lists es) → ReachesSoFar (lists es) t done found → done < length found → x ≡ get_or found done x → (x < length es) × (x ≡ get_or found done 0)
task_read es t done found x inside so_far h e =
    let is = get_or_read found done x h e 0 in
    let w = so_far.near done h in
    let b = first_edge (lists es) (get_or found done 0) w.0 t w.2 in
    (omega (arith, is, inside b.0 (get_or found done 0) b.1, length-map es (λ (v : Vec ℕ Global). v.items)), is)
