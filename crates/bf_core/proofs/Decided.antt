-- What a decision waits for, and what stays where something is decided.
use Rattle.std.proofs.Common.{◌≡◌, ◌≢◌, ℕ, ◌&&◌, ◌||◌, not, Bool, true, false, List, [], ◌∷◌, Option, None, Some, is_some, refl, ap, inl, inr}
use Rattle.std.specs.List.{list_all, AllByRecursion}
use Rattle.std.proofs.lemmas.Bool.{and_parts}
use Rattle.bf_core.specs.Terms.{map_index, Dag, Task, task_of, Verdict, is_waiting, Outcome, JobName, name_of, is_failed, TaskValue, State, Cell, Instance, is_branch_in}
use Rattle.bf_core.specs.Deciding.{Seen, settled, lets_decide_in, upstream_verdict_of, past_after, task_verdict_of, decision}
use Rattle.bf_core.specs.Events.{cell_at, put, instance_of, value_in}
use Rattle.bf_core.proofs.Decisions.{AllKnown}
use Rattle.bf_core.proofs.Reading.{put_cases}
use Rattle.bf_core.proofs.Invariant.{IsSettledIn}

pub all_of : (P Q : ℕ → Type 0) → ((u : ℕ) → P u → Q u) → (us : List ℕ) → AllByRecursion P us → AllByRecursion Q us
all_of P Q h [] all = tt
all_of P Q h (u ∷ us) all = (h u all.0, all_of P Q h us all.1)

pub ruled : (dag : Dag) (seen : ℕ → Seen) (t : ℕ) → list_all (lets_decide_in dag (task_of dag t) seen) (task_of dag t).upstreams ≡ false → upstream_verdict_of dag seen t ≡ Verdict.Wait
unfolding upstream_verdict_of
ruled dag seen t e = rw e

pub lets : (dag : Dag) (k : ℕ) (seen : ℕ → Seen) (p : Option TaskValue) (t : ℕ) → task_verdict_of dag k seen p t ≢ Verdict.Wait →
    list_all (lets_decide_in dag (task_of dag t) seen) (task_of dag t).upstreams ≡ true
unfolding task_verdict_of
lets dag k seen p t decides = go (list_all (lets_decide_in dag (task_of dag t) seen) (task_of dag t).upstreams) refl
  where
    go : (b : Bool) → list_all (lets_decide_in dag (task_of dag t) seen) (task_of dag t).upstreams ≡ b → list_all (lets_decide_in dag (task_of dag t) seen) (task_of dag t).upstreams ≡ true
    go true e = e
    go false e = absurd (decides (ap (past_after (task_of dag t).depends_on_past k p) (ruled dag seen t e)))

pub waited : (dag : Dag) (task : Task) (seen : ℕ → Seen) → is_waiting task.rule ≡ true → (us : List ℕ) → list_all (lets_decide_in dag task seen) us ≡ true → AllKnown seen us
waited dag task seen w [] e = tt
waited dag task seen w (u ∷ us) e = (one (is_some (seen u).value) (is_branch_in (task_of dag u)) (and_parts _ _ e).0, waited dag task seen w us (and_parts _ _ e).1)
  where
    one : (a b : Bool) → (a || (not (is_waiting task.rule) && not b)) ≡ true → a ≡ true
    one true b h = refl
    one false b h = let n : not (is_waiting task.rule) ≡ true = (and_parts _ _ h).0 in let m : not (is_waiting task.rule) ≡ false = rw w in cc

pub decided_cell : (c : Cell) → is_some (value_in c) ≡ true → c ≢ Cell.Undecided
decided_cell c h e = let x : is_some (value_in c) ≡ false = rw e in cc

-- a settled cell stays as it is where an unsettled one is put
pub settled_kept : (s : State) (k t : ℕ) (c : Cell) → value_in (cell_at s k t) ≡ None → (j u : ℕ) → IsSettledIn s j u → IsSettledIn (put s k t c) j u
settled_kept s k t c unsettled j u known =
    elim (put_cases s k t c j u) [ inl p ↦ absurd (contra p.0 p.1) | inr e ↦ rw e known ]
  where
    contra : j ≡ k → u ≡ t → ⊥
    contra x y = let none : value_in (cell_at s j u) ≡ None = rw (x, y) unsettled in let no : is_some (value_in (cell_at s j u)) ≡ false = rw none in cc

pub no_instance : (s : State) (k t : ℕ) → cell_at s k t ≡ Cell.Undecided → (i : ℕ) (x : Instance) → instance_of (cell_at s k t) i ≡ Some x → ⊥
no_instance s k t e i x h = let f : instance_of (cell_at s k t) i ≡ None = rw e in cc

pub decided_held : (s : State) (k t i : ℕ) (x : Instance) → instance_of (cell_at s k t) i ≡ Some x → cell_at s k t ≢ Cell.Undecided
decided_held s k t i x h e = no_instance s k t e i x h

-- a name is made of its parts
pub named : (dag : Dag) (n : JobName) (i a : ℕ) → map_index (task_of dag n.task) i ≡ n.index → a ≡ n.attempt → name_of dag n.run n.task i a ≡ n
unfolding name_of
named dag n i a index attempt = λ j. record { run = n.run; task = n.task; index = index j; attempt = attempt j }

pub failed_is : (o : Outcome) → is_failed o ≡ true → o ≡ Outcome.Failed
failed_is Outcome.Failed e = refl
failed_is (Outcome.Success v) e = cc
failed_is Outcome.Skipped e = cc
