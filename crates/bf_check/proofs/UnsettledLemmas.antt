-- Which pull is refused, by the marks of what reaches a task.
use Rattle.std.proofs.Common.{◌≡◌, ℕ, suc, zero, ◌<◌, List, [], ◌∷◌, length, map, slice_get, Contains, Bool, true, false, true≢false, not, cond, Option, Some, None, IfSome, option_map, unwrap_or, refl, sym, ap, ◌∙◌, subst, arith}
use Rattle.std.specs.List.{find, slice_index_or}
use Rattle.std.specs.Str.{bytes_eq}
use Rattle.std.proofs.lemmas.List.{length-map}
use Rattle.std.proofs.lemmas.List.Quantifiers.{position-Some}
use Rattle.std.proofs.lemmas.Option.{unwrap_or-slice_get}
use Rattle.bf_graph.specs.Reach.{IsRow, Reaches}
use Rattle.bf_read.specs.declared.draft.Draft.{Draft}
use Rattle.bf_read.specs.declared.draft.TaskDraft.{TaskDraft}
use Rattle.bf_read.specs.Drafts.{pulled_in}
use Rattle.bf_check.specs.Checking.{ids_of, number_of}
use Rattle.bf_check.specs.inner.Looks.{is_marked_at, is_settled_by, settling_edges_of, settling_upstreams}
use Rattle.bf_check.specs.Refusals.{IsUnsettledPull, MayPull, PullsUnsettled}
use Rattle.bf_check.proofs.PullLemmas.{reaching_settles, settled_reaches}

-- ---- what is found in a list

module _ {X : Type 0} (p : X → Bool) where
  found_here : (xs : List X) (x : X) → find p xs ≡ Some x → Contains xs x × (p x ≡ true)
  found_here [] x e = absurd (cc)
  found_here (y ∷ ys) x e = go (p y) refl e (found_here ys x)
    where
      go : (b : Bool) → p y ≡ b → cond b (Some y) (find p ys) ≡ Some x → (find p ys ≡ Some x → Contains ys x × (p x ≡ true)) → Contains (y ∷ ys) x × (p x ≡ true)
      go true holds same behind = let is : y ≡ x = cc in ((0, omega arith, is), ap p (sym is) ∙ holds)
      go false fails same behind = let rest = behind same in ((suc rest.0.0, omega (arith, rest.0.1), rest.0.2), rest.1)

  found_none : (xs : List X) → find p xs ≡ None → (x : X) → Contains xs x → p x ≡ false
  found_none [] e x (k, h, is) = absurd (omega (arith, h))
  found_none (y ∷ ys) e x one = go (p y) refl e (found_none ys) one
    where
      go : (b : Bool) → p y ≡ b → cond b (Some y) (find p ys) ≡ None → (find p ys ≡ None → (x : X) → Contains ys x → p x ≡ false) → Contains (y ∷ ys) x → p x ≡ false
      go true holds some behind there = absurd (cc)
      go false fails none behind (zero, h, is) = ap p (sym is) ∙ fails
      go false fails none behind (suc k, h, is) = behind none x (k, omega (arith, h), is)

not_true : (b : Bool) → not b ≡ true → b ≡ false
not_true true e = absurd (true≢false (sym e))
not_true false e = refl

not_false : (b : Bool) → not b ≡ false → b ≡ true
not_false true e = refl
not_false false e = absurd (true≢false e)

-- the marks, over the same edges
pub row_of : (draft : Draft) (t n : ℕ) (marks : List Bool) (ups : List (List ℕ)) → ups ≡ settling_edges_of draft.tasks → n ≡ length ups → IsRow ups n t marks → IsRow (settling_edges_of draft.tasks) (length (settling_edges_of draft.tasks)) t marks
row_of draft t n marks ups are counted row =
    subst (λ (es : List (List ℕ)). IsRow es (length es) t marks) are (subst (λ (k : ℕ). IsRow ups k t marks) counted row)

-- ---- what a mark tells of a pull

module _ (draft : Draft) (t : ℕ) (marks : List Bool) where
  abbrev edges : List (List ℕ)
  edges = settling_edges_of draft.tasks

  abbrev ids : List (List ℕ)
  ids = ids_of draft.tasks

  module _ (row : IsRow edges (length edges) t marks) where
    low : (id : List ℕ) (a : ℕ) → number_of ids id ≡ Some a → a < length edges
    low id a e =
        let place = position-Some (bytes_eq id) ids a [] e in
        omega (arith, place.0, length-map draft.tasks (λ (task : TaskDraft). task.id), length-map draft.tasks (settling_upstreams ids))

    mark_read : (a : ℕ) → unwrap_or (slice_get marks a) false ≡ slice_index_or marks a false
    mark_read a = unwrap_or-slice_get marks a false

    may : (id : List ℕ) (o : Option ℕ) → number_of ids id ≡ o → is_marked_at marks o ≡ true → MayPull draft t id
    may id None e marked = absurd (true≢false (sym marked))
    may id (Some n) e marked = (n, e, reaching_settles draft t n ((row.right n (low id n e)).0 (sym (mark_read n) ∙ marked)))

    may_not : (id : List ℕ) (o : Option ℕ) → number_of ids id ≡ o → is_marked_at marks o ≡ false → MayPull draft t id → ⊥
    may_not id None e unmarked (a, is, settled) = absurd (let both : None ≡ Some a = sym e ∙ is in cc)
    may_not id (Some n) e unmarked (a, is, settled) =
        let same : n ≡ a = (let both : Some n ≡ Some a = sym e ∙ is in cc) in
        let marked = (row.right n (low id n e)).1 (subst (λ (v : ℕ). Reaches edges v t) (sym same) (settled_reaches draft t a settled)) in
        true≢false (sym marked ∙ (sym (mark_read n) ∙ unmarked))

    module _ (task : TaskDraft) (there : slice_get draft.tasks t ≡ Some task) where
      pub found_unsettled : (found : Option (List ℕ)) → found ≡ find (λ id. not (is_settled_by ids marks id)) (pulled_in task.command) → IfSome found (IsUnsettledPull draft t)
      found_unsettled None e = tt
      found_unsettled (Some id) e =
          let here = found_here (λ x. not (is_settled_by ids marks x)) (pulled_in task.command) id (sym e) in
          record {
            task = task;
            is_task = there;
            pulled = here.0;
            unsettled = may_not id (number_of ids id) refl (not_true (is_settled_by ids marks id) here.1);
          }

      pub none_unsettled : find (λ id. not (is_settled_by ids marks id)) (pulled_in task.command) ≡ None → PullsUnsettled draft t task → ⊥
      none_unsettled e (id, one, cannot) =
          cannot (may id (number_of ids id) refl (not_false (is_settled_by ids marks id) (found_none (λ x. not (is_settled_by ids marks x)) (pulled_in task.command) e id one)))
