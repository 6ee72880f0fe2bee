-- What is kept of tries of which some have one name.
use Rattle.std.proofs.Common.{◌≡◌, ◌∙◌, Bool, true, false, cond, List, [], ◌∷◌, ◌++◌, length, ◌<◌, Option, Some, None, IsSome, refl, sym, ap, subst}
use Rattle.std.specs.FinMap as map
use Rattle.std.specs.Option.{option_or}
use Rattle.std.specs.Ordering.{eq_by_cmp}
use Rattle.bf_value.specs.declared.name.JobName.{JobName}
use Rattle.bf_value.specs.Names.{name_cmp}
use Rattle.bf_value.specs.inner.Names.{name_cmp_total}
use Rattle.bf_plan.specs.declared.plan.Dag.{Dag}
use Rattle.bf_plan.proofs.ListLemmas.{some_same}
use Rattle.bf_try.specs.declared.ledger.Entry.{Entry}
use Rattle.bf_try.specs.Grades.{fits_in}
use Rattle.bf_try.proofs.Maps.{same_name}
use Rattle.bf_kept.specs.Kept.{AreFit}
use Rattle.bf_journal.specs.Found.{entry_for, entry_named, last_for}
use Rattle.bf_journal.specs.inner.Found.{AreOfTasks}

or_none : (o : Option Entry) → option_or o None ≡ o
or_none None = refl
or_none (Some e) = refl

or_same : (a b c : Option Entry) → option_or (option_or a b) c ≡ option_or a (option_or b c)
or_same None b c = refl
or_same (Some e) b c = refl

or_some : (a b : Option Entry) → IsSome a → option_or a b ≡ a
or_some None b some = absurd (cc)
or_some (Some e) b some = refl

-- ---- noting one try

-- a try whose name wasn't there is noted
pub noted : (ledger : map.FinMap name_cmp Entry) (name : JobName) (entry : Entry) → map.get ledger name ≡ None → (n : JobName) → map.get (map.insert ledger name entry) n ≡ option_or (map.get ledger n) (entry_named (name, entry) n)
noted ledger name entry none n = map.get-insert name_cmp_total ledger name entry n ∙ go (eq_by_cmp name_cmp n name) refl
  where
    go : (b : Bool) → eq_by_cmp name_cmp n name ≡ b → cond b (Some entry) (map.get ledger n) ≡ option_or (map.get ledger n) (cond b (Some entry) None)
    go true same = ap (λ o. option_or o (Some entry)) (sym (ap (map.get ledger) (same_name n name same) ∙ none))
    go false other = sym (or_none (map.get ledger n))

-- one whose name was there isn't
pub not_noted : (ledger : map.FinMap name_cmp Entry) (name : JobName) (entry : Entry) → IsSome (map.get ledger name) → (n : JobName) → map.get ledger n ≡ option_or (map.get ledger n) (entry_named (name, entry) n)
not_noted ledger name entry some n = go (eq_by_cmp name_cmp n name) refl
  where
    go : (b : Bool) → eq_by_cmp name_cmp n name ≡ b → map.get ledger n ≡ option_or (map.get ledger n) (cond b (Some entry) None)
    go true same = sym (or_some (map.get ledger n) (Some entry) (subst IsSome (ap (map.get ledger) (sym (same_name n name same))) some))
    go false other = sym (or_none (map.get ledger n))

-- ---- one try after another, the last first

last_more : (dag : Dag) (tries : List (JobName × Entry)) (try : JobName × Entry) (n : JobName) → last_for dag (tries ++ try ∷ []) n ≡ option_or (entry_for dag try n) (last_for dag tries n)
last_more dag [] try n = sym (or_none (entry_for dag try n))
last_more dag (t ∷ ts) try n =
    ap (λ o. option_or o (entry_for dag t n)) (last_more dag ts try n) ∙ or_same (entry_for dag try n) (last_for dag ts n) (entry_for dag t n)

-- what is noted, or else the last of the tries that are left, is the last of all
abbrev pub IsLeft : Dag → List (JobName × Entry) → List (JobName × Entry) → (JobName → Option Entry) → Type 0
IsLeft dag all tries look = (n : JobName) → option_or (look n) (last_for dag tries n) ≡ last_for dag all n

pub none_noted : (dag : Dag) (all : List (JobName × Entry)) → IsLeft dag all all (map.get (map.empty {X = Entry} {R = name_cmp}))
none_noted dag all n = ap (λ o. option_or o (last_for dag all n)) (map.get-empty name_cmp n)

pub one_noted : (dag : Dag) (all tries rest : List (JobName × Entry)) (try : JobName × Entry) (old new : JobName → Option Entry) → IsLeft dag all tries old → tries ≡ rest ++ try ∷ []
    → ((n : JobName) → new n ≡ option_or (old n) (entry_for dag try n)) → IsLeft dag all rest new
one_noted dag all tries rest try old new left is noted n =
    ap (λ o. option_or o (last_for dag rest n)) (noted n) ∙ or_same (old n) (entry_for dag try n) (last_for dag rest n)
    ∙ ap (option_or (old n)) (sym (last_more dag rest try n) ∙ ap (λ l. last_for dag l n) (sym is)) ∙ left n

-- ---- tasks that are there

pub tasks_of_rest : (dag : Dag) (tries rest : List (JobName × Entry)) (try : JobName × Entry) → tries ≡ rest ++ try ∷ [] → AreOfTasks dag tries → (try.0.task < length dag.tasks) × AreOfTasks dag rest
tasks_of_rest dag tries rest try is are = go rest (subst (AreOfTasks dag) is are)
  where
    go : (rest : List (JobName × Entry)) → AreOfTasks dag (rest ++ try ∷ []) → (try.0.task < length dag.tasks) × AreOfTasks dag rest
    go [] are = (are.0, tt)
    go (x ∷ xs) are = let both = go xs are.1 in (both.0, (are.0, both.1))

-- ---- what is kept fits

fit_one : (dag : Dag) (try : JobName × Entry) (n : JobName) (e : Entry) → entry_for dag try n ≡ Some e → fits_in dag n.task e.outcome ≡ true
fit_one dag try n e is = go (fits_in dag try.0.task try.1.outcome) (eq_by_cmp name_cmp n try.0) refl refl is
  where
    go : (f b : Bool) → fits_in dag try.0.task try.1.outcome ≡ f → eq_by_cmp name_cmp n try.0 ≡ b → cond f (cond b (Some try.1) None) None ≡ Some e → fits_in dag n.task e.outcome ≡ true
    go true true fit same is = ap (λ (m : JobName). fits_in dag m.task e.outcome) (same_name n try.0 same) ∙ ap (λ (x : Entry). fits_in dag try.0.task x.outcome) (sym (some_same is)) ∙ fit
    go true false fit other is = absurd (cc)
    go false b unfit same is = absurd (cc)

last_fits : (dag : Dag) (tries : List (JobName × Entry)) (n : JobName) (e : Entry) → last_for dag tries n ≡ Some e → fits_in dag n.task e.outcome ≡ true
last_fits dag [] n e is = absurd (cc)
last_fits dag (try ∷ tries) n e is = go (last_for dag tries n) refl (λ before. last_fits dag tries n e before) is
  where
    go : (o : Option Entry) → last_for dag tries n ≡ o → (last_for dag tries n ≡ Some e → fits_in dag n.task e.outcome ≡ true) → option_or o (entry_for dag try n) ≡ Some e → fits_in dag n.task e.outcome ≡ true
    go None none rest is = fit_one dag try n e is
    go (Some x) some rest is = rest (some ∙ is)

-- so each try that is kept does
pub all_fit : (dag : Dag) (tries : List (JobName × Entry)) (kept : JobName → Option Entry) → ((n : JobName) → kept n ≡ last_for dag tries n) → AreFit dag kept
all_fit dag tries kept same n e is = last_fits dag tries n e (sym (same n) ∙ is)
