-- The tasks that failed themselves, one behind another.
use Rattle.std.proofs.Common.{◌≡◌, ℕ, ◌+◌, nat_lt, min, ℤ, Bool, true, false, List, [], ◌∷◌, ◌++◌, Some, codes, length, take, drop, map, insert, slice_get, refl, sym, ap, ap₂, ◌∙◌, add-one}
use Rattle.std.specs.List.{flat_map}
use Rattle.std.proofs.lemmas.Bool.{cond-true, cond-false}
use Rattle.std.proofs.lemmas.List.{length-map, take-map, take_min}
use Rattle.bf_moment.specs.declared.moment.Moment.{Moment}
use Rattle.bf_plan.specs.declared.plan.Dag.{Dag}
use Rattle.bf_grid.specs.declared.failed_tasks.Failing.{Failing}
use Rattle.bf_grid.specs.FailedTasks.{failing_line, failing_text, further_line, id_width_of, placed}
use Rattle.bf_grid.specs.inner.FoundTasks.{first_fewer, pair_of}
use Rattle.bf_wording.specs.Numbers.{count_text_of}
use Rattle.bf_grid.proofs.TextFacts.{three_in_a_row}

as_many : (failing : Failing) → length (pair_of failing).1 ≡ length failing.starts.items
as_many failing = length-map failing.starts.items (λ (start : Moment). start.at.nanosecond)

put_in : (b : Bool) (first new : Failing) (rest : List Failing) → nat_lt (length first.starts.items) (length new.starts.items) ≡ b →
    map pair_of (insert rest (first_fewer (length new.starts.items) rest) new) ≡ placed (pair_of new) (map pair_of rest) →
    map pair_of (insert (first ∷ rest) (first_fewer (length new.starts.items) (first ∷ rest)) new) ≡ placed (pair_of new) (map pair_of (first ∷ rest))
put_in true first new rest e behind =
    ap (λ n. map pair_of (insert (first ∷ rest) n new)) (cond-true _ _ _ e) ∙ sym (cond-true _ _ _ (ap₂ nat_lt (as_many first) (as_many new) ∙ e))
put_in false first new rest e behind =
    let n = first_fewer (length new.starts.items) rest in
    let further : insert (first ∷ rest) (n + 1) new ≡ first ∷ insert rest n new = rw add-one refl in
    ap (λ k. map pair_of (insert (first ∷ rest) k new)) (cond-false _ _ _ e) ∙ ap (map pair_of) further ∙ ap (λ ps. pair_of first ∷ ps) behind
    ∙ sym (cond-false _ _ _ (ap₂ nat_lt (as_many first) (as_many new) ∙ e))

-- a task is put before the first with fewer starts
pub put_there : (found : List Failing) (new : Failing) → map pair_of (insert found (first_fewer (length new.starts.items) found) new) ≡ placed (pair_of new) (map pair_of found)
put_there [] new = refl
put_there (first ∷ rest) new = put_in (nat_lt (length first.starts.items) (length new.starts.items)) first new rest refl (put_there rest new)

pub first_of : {X : Type 0} (xs : List X) (x : X) → slice_get xs 0 ≡ Some x → xs ≡ x ∷ drop 1 xs
first_of [] x is = cc
first_of (y ∷ ys) x is = let same : y ≡ x = cc in ap (λ z. z ∷ ys) same

-- what is told of them, behind a text
pub failing_told : (dag : Dag) (t : List ℕ) (found : List Failing) (first : Failing) (rest : List Failing) (told widest count : ℕ) → found ≡ first ∷ rest → told ≡ min 20 (length found) → widest ≡ length (count_text_of (length first.starts.items) (codes "run")) → count ≡ length found →
    ((t ++ codes "\ntasks that failed themselves\n") ++ flat_map (failing_line dag (id_width_of dag (map pair_of (take told found))) widest) (map pair_of (take told found))) ++ further_line count ≡ t ++ failing_text dag (map pair_of found)
failing_told dag t found first rest told widest count is few wide all =
    let head : List ℕ = codes "\ntasks that failed themselves\n" in
    let lines : List (ℕ × List ℤ) → ℕ → List ℕ = λ pairs w. flat_map (failing_line dag (id_width_of dag pairs) w) pairs in
    let w : ℕ = length (count_text_of (length (pair_of first).1) (codes "run")) in
    let same : widest ≡ w = wide ∙ ap (λ n. length (count_text_of n (codes "run"))) (sym (as_many first)) in
    let pairs : map pair_of (take told found) ≡ take 20 (map pair_of found) = ap (map pair_of) (ap (λ n. take n found) few ∙ take_min 20 found) ∙ sym (take-map pair_of 20 found) in
    let number : count ≡ length (map pair_of found) = all ∙ sym (length-map found pair_of) in
    let of_all : List (ℕ × List ℤ) → List ℕ = λ q. t ++ (head ++ (lines (take 20 q) w ++ further_line (length q))) in
    ap (λ ps. ((t ++ head) ++ lines ps widest) ++ further_line count) pairs
    ∙ ap (λ k. ((t ++ head) ++ lines (take 20 (map pair_of found)) k) ++ further_line count) same
    ∙ ap (λ n. ((t ++ head) ++ lines (take 20 (map pair_of found)) w) ++ further_line n) number
    ∙ three_in_a_row t head (lines (take 20 (map pair_of found)) w) (further_line (length (map pair_of found)))
    ∙ ap of_all (ap (map pair_of) is)
    ∙ ap (λ fs. t ++ failing_text dag (map pair_of fs)) (sym is)
