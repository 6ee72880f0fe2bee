-- The first of what may come by itself.
use Rattle.std.proofs.Common.{◌≡◌, ◌⊎◌, ℕ, zero, suc, ◌<◌, ◌≤◌, Bool, List, [], ◌∷◌, length, map, get_or, slice_get, Some, refl, sym, ap, ◌∙◌, subst, inl, inr, arith}
use Rattle.std.proofs.lemmas.List.{length-map}
use Rattle.bf_graph.specs.Edges.{IsRank}
use Rattle.bf_graph.specs.Order.{IsByRank}
use Rattle.bf_plan.specs.declared.plan.Dag.{Dag}
use Rattle.bf_plan.specs.Plans.{shape_of}
use Rattle.bf_core.specs.declared.event.Event.{Event}
use Rattle.bf_core.specs.Cores.{Backfill, IsThere, MayCome, deciding}
use Rattle.bf_core.proofs.Enabling.{able_decidable}
use Rattle.bf_core.proofs.Shape.{open_run_exists}
use Rattle.bf_due.proofs.Adding.{one_rank}
use Rattle.bf_due.specs.Steps.{StandsBefore}

-- ---- places in an order

some_at : (xs : List ℕ) (i : ℕ) → i < length xs → slice_get xs i ≡ Some (get_or xs i 0)
some_at [] i l = absurd (omega (arith, l))
some_at (x ∷ xs) zero l = refl
some_at (x ∷ xs) (suc i) l = some_at xs i (omega arith)

at_some : (xs : List ℕ) (i x : ℕ) → slice_get xs i ≡ Some x → (get_or xs i 0 ≡ x) × (i < length xs)
at_some [] i x e = cc
at_some (y ∷ ys) zero x e = (cc, omega arith)
at_some (y ∷ ys) (suc i) x e = let r = at_some ys i x e in (r.0, omega (arith, r.1))

three : (a b : ℕ) → (a < b) ⊎ ((a ≡ b) ⊎ (b < a))
three a b = grind arith

-- the task at place i stands before each that is not at an earlier place
pub stands_first : (dag : Dag) (order : List ℕ) → IsByRank (shape_of dag).upstreams order → (i : ℕ) → i < length order → (u : ℕ) → u < length dag.tasks →
    ((j : ℕ) → j < i → get_or order j 0 ≡ u → ⊥) → StandsBefore dag (get_or order i 0) u
stands_first dag order by_rank i l u is_task before q r rank_t rank_u =
    let all : _ = by_rank.all u (let e : length (map (λ task. task.upstreams) dag.tasks) ≡ length dag.tasks = length-map _ _ in omega (arith, e, is_task)) in
    let at : _ = at_some order all.0 u all.1 in
    elim (three all.0 i) [
      | inl x ↦ absurd (before all.0 x at.0)
      | inr y ↦ elim y [
        | inl same ↦
            let here : get_or order i 0 ≡ u = ap (λ n. get_or order n 0) (sym same) ∙ at.0 in
            let e : q ≡ r = one_rank _ u q r (subst (λ t. IsRank (shape_of dag).upstreams t q) here rank_t) rank_u in
            inr (e, omega (arith, here))
        | inr x ↦ elim (by_rank.rises i all.0 (get_or order i 0) u q r x (some_at order i l) all.1 rank_t rank_u) [ inl h ↦ inl h | inr h ↦ inr (h.0, omega (arith, h.1)) ]
      ]
    ]

-- each task has a place
pub has_place : (dag : Dag) (order : List ℕ) → IsByRank (shape_of dag).upstreams order → (u : ℕ) → u < length dag.tasks → (i : ℕ) × (i < length order) × (get_or order i 0 ≡ u)
has_place dag order by_rank u is_task =
    let all : _ = by_rank.all u (let e : length (map (λ task. task.upstreams) dag.tasks) ≡ length dag.tasks = length-map _ _ in omega (arith, e, is_task)) in
    let at : _ = at_some order all.0 u all.1 in
    (all.0, at.1, at.0)

-- ---- what may come is there

pub decided_there : (b : Backfill) (expands : Bool) (k t : ℕ) → MayCome b (deciding expands k t) → IsThere b.dag b.state k t
decided_there b expands k t able = let d = (able_decidable b.dag b.limits b.state k t expands able.0).0 in (open_run_exists b.state k d.run_is_open, d.is_task)

pub closed_there : (b : Backfill) (k : ℕ) → MayCome b (Event.Close k) → k < length b.state.runs
closed_there b k able = open_run_exists b.state k able.0.0
