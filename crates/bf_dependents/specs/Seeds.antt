-- What is cleared, by ids and logical dates.
use Rattle.std.specs.Prelude.{◌≡◌, ℕ, List, Bool, Option, Some, None, option_and_then, option_map, is_none, if◌then◌else◌}
use Rattle.std.specs.List.{list_any, filter_map, position}
use Rattle.std.specs.Ordering.{int_eq}
use Rattle.std.specs.Str.{bytes_eq}
use Rattle.bf_interval.specs.declared.interval.Interval.{Interval}
use Rattle.bf_plan.specs.Plans.{shape_of}
use Rattle.bf_plan.specs.declared.plan.Dag.{Dag}
use Rattle.bf_dependents.specs.declared.place.Place.{Place}
use Rattle.bf_dependents.specs.declared.seeds.Seed.{Seed}
use Rattle.bf_dependents.specs.declared.fault.ClearFault.{ClearFault}
use Rattle.bf_dependents.specs.declared.fault.ClearFault.TheVariants.{OutOfMemory}

-- the task that a seed names
abbrev pub task_number : Dag → Seed → Option ℕ
task_number dag seed = position (bytes_eq seed.task) (shape_of dag).ids

-- the run of its logical date
abbrev pub run_number : List Interval → Seed → Option ℕ
run_number intervals seed = position (λ i. int_eq i.start.nanosecond seed.run.nanosecond) intervals

abbrev pub is_unknown_task_in : Dag → Seed → Bool
is_unknown_task_in dag seed = is_none (task_number dag seed)

abbrev pub is_unknown_run_in : List Interval → Seed → Bool
is_unknown_run_in intervals seed = is_none (run_number intervals seed)

abbrev pub place_in : Dag → List Interval → Seed → Option Place
place_in dag intervals seed =
    option_and_then (λ t. option_map (λ k. record {
      run = k;
      task = t;
      index = seed.index;
    }) (run_number intervals seed)) (task_number dag seed)

-- the tasks in runs, or instances of them, that the seeds name
abbrev pub places_in : Dag → List Interval → List Seed → List Place
places_in dag intervals seeds = filter_map (place_in dag intervals) seeds

-- the first fault of the seeds: a task that isn't known, else a run
abbrev pub seed_fault : Dag → List Interval → List Seed → Option ClearFault
seed_fault dag intervals seeds =
    if list_any (is_unknown_task_in dag) seeds then Some ClearFault.UnknownTask
    else (if list_any (is_unknown_run_in intervals) seeds then Some ClearFault.UnknownRun
    else None)

-- why the seeds have no places: their first fault, or want of memory
abbrev pub IsSeedFault : Dag → List Interval → List Seed → ClearFault → Type 0
IsSeedFault dag intervals seeds OutOfMemory = Unit {0}
IsSeedFault dag intervals seeds fault = seed_fault dag intervals seeds ≡ Some fault
