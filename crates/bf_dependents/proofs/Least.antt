-- What follows from the seeds is the least of such sets.
use Rattle.std.proofs.Common.{◌≡◌, ℕ, suc, ℤ, true, List, Contains, None, Some}
use Rattle.bf_plan.specs.declared.plan.Dag.{Dag}
use Rattle.bf_plan.specs.Plans.{task_of}
use Rattle.bf_plan.specs.Sound.{IsOneOf}
use Rattle.bf_dependents.specs.declared.place.Place.{Place}
use Rattle.bf_dependents.specs.Dependents.{IsDependent}

pub least : (dag : Dag) (seeds : List Place) (Any : ℕ → ℕ → ℤ → Type 0) → ((k t : ℕ) (i : ℤ) → Contains seeds (record { run = k; task = t; index = None }) → Any k t i) →
    ((k t : ℕ) (i : ℤ) → Contains seeds (record { run = k; task = t; index = Some i }) → Any k t i) →
    ((k t u : ℕ) (i j : ℤ) → IsOneOf (task_of dag t).upstreams u → Any k u j → Any k t i) → ((k t : ℕ) (i j : ℤ) → (task_of dag t).depends_on_past ≡ true → Any k t j → Any (suc k) t i) →
    (k t : ℕ) (i : ℤ) → IsDependent dag seeds k t i → Any k t i
least dag seeds Any whole at down next k t i (IsDependent.Seed c) = whole k t i c
least dag seeds Any whole at down next k t i (IsDependent.SeedAt c) = at k t i c
least dag seeds Any whole at down next k t i (IsDependent.Downstream {u = u} {j = j} h d) = down k t u i j h (least dag seeds Any whole at down next k u j d)
least dag seeds Any whole at down next (suc k) t i (IsDependent.NextRun {j = j} h d) = next k t i j h (least dag seeds Any whole at down next k t j d)

-- where no seed has an index, each instance of a task follows, or none
pub whole_tasks : (dag : Dag) (seeds : List Place) → ((p : Place) → Contains seeds p → p.index ≡ None) → (k t : ℕ) (i j : ℤ) → IsDependent dag seeds k t i → IsDependent dag seeds k t j
whole_tasks dag seeds none k t i j (IsDependent.Seed c) = IsDependent.Seed c
whole_tasks dag seeds none k t i j (IsDependent.SeedAt c) = let e : Some i ≡ None = none (record { run = k; task = t; index = Some i }) c in cc
whole_tasks dag seeds none k t i j (IsDependent.Downstream h d) = IsDependent.Downstream h d
whole_tasks dag seeds none (suc k) t i j (IsDependent.NextRun h d) = IsDependent.NextRun h d
