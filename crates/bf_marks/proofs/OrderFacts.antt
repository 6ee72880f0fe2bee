-- The order of the rows, task by task.
use Rattle.std.proofs.Common.{◌≡◌, ℕ, zero, suc, ◌+◌, Bool, true, false, List, [], ◌∷◌, ◌++◌, filter, reverse, slice_set, sym, ap, ◌∙◌, arith, append-nil, append_assoc, if◌then◌else◌}
use Rattle.std.specs.List.{range_with_len}
use Rattle.std.proofs.lemmas.List.{reverse-append, reverse-reverse}
use Rattle.std.proofs.lemmas.List.Elements.{filter-append}
use Rattle.bf_plan.specs.declared.plan.Dag.{Dag}
use Rattle.bf_marks.specs.declared.row_order.Walk.{Walk}
use Rattle.bf_marks.specs.RowOrder.{is_let_go_in, order_from, tasks_where}
use Rattle.bf_marks.specs.inner.Walk.{GoesOnBy}

pub range_more : (a n : ℕ) → range_with_len a (n + 1) ≡ range_with_len a n ++ (a + n) ∷ []
range_more a zero = let same : a ≡ a + 0 = omega arith in ap (λ k. k ∷ []) same
range_more a (suc n) =
    let more : suc n + 1 ≡ suc (n + 1) = omega arith in
    let same : a + 1 + n ≡ a + suc n = omega arith in
    ap (range_with_len a) more ∙ ap (λ xs. a ∷ xs) (range_more (a + 1) n ∙ ap (λ k. range_with_len (a + 1) n ++ k ∷ []) same)

-- one number more is looked at, and is kept, or not
looked_at : (p : ℕ → Bool) (n : ℕ) → filter p (range_with_len 0 (n + 1)) ≡ filter p (range_with_len 0 n) ++ (if p n then n ∷ [] else [])
looked_at p n =
    let same : 0 + n ≡ n = omega arith in
    ap (filter p) (range_more 0 n) ∙ ap (λ k. filter p (range_with_len 0 n ++ k ∷ [])) same ∙ filter-append p (range_with_len 0 n) (n ∷ [])

pub one_kept : (p : ℕ → Bool) (n : ℕ) → p n ≡ true → filter p (range_with_len 0 (n + 1)) ≡ filter p (range_with_len 0 n) ++ n ∷ []
one_kept p n kept =
    looked_at p n ∙ ap (λ b. filter p (range_with_len 0 n) ++ (if b then n ∷ [] else [])) kept

pub none_kept : (p : ℕ → Bool) (n : ℕ) → p n ≡ false → filter p (range_with_len 0 (n + 1)) ≡ filter p (range_with_len 0 n)
none_kept p n left =
    looked_at p n ∙ ap (λ b. filter p (range_with_len 0 n) ++ (if b then n ∷ [] else [])) left ∙ append-nil (filter p (range_with_len 0 n))

-- tasks that are put on the pile in turn come off it in order
pub piled : (left more : List ℕ) → reverse (left ++ reverse more) ≡ more ++ reverse left
piled left more = reverse-append left (reverse more) ∙ ap (λ xs. xs ++ reverse left) (reverse-reverse more)

pub popped : (left : List ℕ) (task : ℕ) → reverse (left ++ task ∷ []) ≡ task ∷ reverse left
popped left task = reverse-append left (task ∷ [])

-- one task more stands in the order
pub stood : (dag : Dag) (n : ℕ) (old new : Walk) (order all : List ℕ) (task : ℕ) → GoesOnBy dag old new task → order ++ order_from dag (suc n) old.standing.items (reverse old.left.items) ≡ all →
    (order ++ task ∷ []) ++ order_from dag n new.standing.items (reverse new.left.items) ≡ all
stood dag n old new order all task goes is =
    let before : order_from dag (suc n) old.standing.items (reverse old.left.items) ≡ order_from dag (suc n) old.standing.items (task ∷ goes.left) =
    ap (order_from dag (suc n) old.standing.items) goes.was in
    let behind : order_from dag n new.standing.items (reverse new.left.items) ≡ order_from dag n (slice_set old.standing.items task true) (tasks_where dag (is_let_go_in dag (slice_set old.standing.items task true) task) ++ goes.left) =
    ap (order_from dag n new.standing.items) goes.now ∙ ap (λ standing. order_from dag n standing (tasks_where dag (is_let_go_in dag standing task) ++ goes.left)) goes.stands in
    append_assoc order (task ∷ []) (order_from dag n new.standing.items (reverse new.left.items)) ∙ ap (λ s. order ++ task ∷ s) behind ∙ ap (λ s. order ++ s) (sym before) ∙ is
