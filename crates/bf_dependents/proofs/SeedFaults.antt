-- The first fault of seeds, one seed after another.
use Rattle.std.proofs.Common.{◌≡◌, ℕ, ◌<◌, ◌+◌, ◌||◌, Bool, true, false, List, [], ◌∷◌, length, get_or, take, Option, Some, None, if◌then◌else◌, refl, sym, ap, ap₂, ◌∙◌}
use Rattle.std.specs.List.{list_any}
use Rattle.std.proofs.lemmas.List.Folds.{list_any_more}
use Rattle.bf_interval.specs.declared.interval.Interval.{Interval}
use Rattle.bf_plan.specs.declared.plan.Dag.{Dag}
use Rattle.bf_dependents.specs.declared.fault.ClearFault.{ClearFault}
use Rattle.bf_dependents.specs.declared.fault.ClearFault.TheVariants.{UnknownTask, UnknownRun}
use Rattle.bf_dependents.specs.declared.seeds.Seed.{Seed}
use Rattle.bf_dependents.specs.Seeds.{is_unknown_run_in, is_unknown_task_in, seed_fault}

-- the fault where a task is unknown, where a run is
abbrev pub fault_by : Bool → Bool → Option ClearFault
fault_by task run = if task then Some UnknownTask else (if run then Some UnknownRun else None)

-- the fault of one more, by its own
behind : (tasks runs task run : Bool) → fault_by (task || false) (run || false) ≡ None → fault_by (tasks || task) (runs || run) ≡ fault_by tasks runs
behind true runs false false e = refl
behind false true false false e = refl
behind false false false false e = refl
behind tasks runs true run e = cc
behind tasks runs false true e = cc

run_behind : (tasks runs task run w : Bool) → fault_by tasks runs ≡ (if w then Some UnknownRun else None) → fault_by (task || false) (run || false) ≡ Some UnknownRun → fault_by (tasks || task) (runs || run) ≡ Some UnknownRun
run_behind true runs task run true so_far e = cc
run_behind true runs task run false so_far e = cc
run_behind false runs true run w so_far e = cc
run_behind false true false run w so_far e = refl
run_behind false false false true w so_far e = refl
run_behind false false false false w so_far e = cc

module _ (dag : Dag) (intervals : List Interval) (seeds : List Seed) (i : ℕ) (seed : Seed) (within : i < length seeds) (is : seed ≡ get_or seeds i seed) where
  more : seed_fault dag intervals (take (i + 1) seeds) ≡ fault_by (list_any (is_unknown_task_in dag) (take i seeds) || is_unknown_task_in dag seed) (list_any (is_unknown_run_in intervals) (take i seeds) || is_unknown_run_in intervals seed)
  more = ap₂ fault_by
      (list_any_more (is_unknown_task_in dag) seeds i seed within ∙ ap (λ s. list_any (is_unknown_task_in dag) (take i seeds) || is_unknown_task_in dag s) (sym is))
      (list_any_more (is_unknown_run_in intervals) seeds i seed within ∙ ap (λ s. list_any (is_unknown_run_in intervals) (take i seeds) || is_unknown_run_in intervals s) (sym is))

  -- one seed more that is known
  pub one_known : seed_fault dag intervals (seed ∷ []) ≡ None → seed_fault dag intervals (take (i + 1) seeds) ≡ seed_fault dag intervals (take i seeds)
  one_known e = more ∙ behind (list_any (is_unknown_task_in dag) (take i seeds)) (list_any (is_unknown_run_in intervals) (take i seeds)) (is_unknown_task_in dag seed) (is_unknown_run_in intervals seed) e

  -- one whose run is unknown, where no task was
  pub one_unknown_run : (w : Bool) → seed_fault dag intervals (take i seeds) ≡ (if w then Some UnknownRun else None) → seed_fault dag intervals (seed ∷ []) ≡ Some UnknownRun → seed_fault dag intervals (take (i + 1) seeds) ≡ Some UnknownRun
  one_unknown_run w so_far e = more ∙ run_behind (list_any (is_unknown_task_in dag) (take i seeds)) (list_any (is_unknown_run_in intervals) (take i seeds)) (is_unknown_task_in dag seed) (is_unknown_run_in intervals seed) w so_far e
