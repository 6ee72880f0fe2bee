-- Small words about phases, and about what instances pushed.
use Rattle.std.specs.Prelude.{ℕ, Bool, true, false, not, ◌&&◌, ◌||◌, if◌then◌else◌, List, [], ◌∷◌, map, Option, None, Some, is_none}
use Rattle.std.specs.List.{list_all, list_any, filter_map}
use Rattle.bf_value.specs.Views.{list_of}
use Rattle.bf_xcom.specs.Pulls.{pushed_by}
use Rattle.bf_core.specs.Terms.{Dag, Instance, Outcome, Phase, SourceValues, Task, TaskValue, Verdict, Xval, followed_at, is_failed, shape_of}

abbrev pub is_finished : Phase → Bool
is_finished (Phase.Finished outcome) = true
is_finished _ = false

abbrev pub passed : Phase → Bool
passed (Phase.Finished outcome) = not (is_failed outcome)
passed _ = false

-- what instances of the previous run say of a task that depends on its past
abbrev pub ran_ruling : List Instance → Verdict
ran_ruling instances =
    if not (list_all (λ instance. is_finished instance.phase) instances) then Verdict.Wait
    else (if list_all (λ instance. passed instance.phase) instances then Verdict.Run
    else Verdict.Blocked)

-- the value is known, and has this property
abbrev pub known_to_be : (TaskValue → Bool) → Option TaskValue → Bool
known_to_be holds None = false
known_to_be holds (Some value) = holds value

-- the branch whose instance is in this phase succeeded, and does not follow the task
abbrev pub phase_skips_in : Dag → ℕ → ℕ → Phase → Bool
phase_skips_in dag task upstream (Phase.Finished (Outcome.Success value)) =
    not (followed_at (shape_of dag) upstream value task)
phase_skips_in dag task upstream _ = false

abbrev pub instances_skip_in : Dag → ℕ → ℕ → List Instance → Bool
instances_skip_in dag task upstream [] = false
instances_skip_in dag task upstream (instance ∷ rest) =
    list_all (λ instance. is_finished instance.phase) (instance ∷ rest)
    && phase_skips_in dag task upstream instance.phase

-- what an instance pushed, where it has finished
abbrev pub pushed_in : Phase → Option Xval
pushed_in (Phase.Finished outcome) = pushed_by outcome
pushed_in _ = None

abbrev pub pushed_by_one : Instance → Option Xval
pushed_by_one instance = pushed_in instance.phase

abbrev pub pushed_by_first : List Instance → Option Xval
pushed_by_first [] = None
pushed_by_first (first ∷ rest) = pushed_by_one first

-- what is pulled from a task by its instances, where all have finished
abbrev pub pulled_from : Task → List Instance → Option Xval
pulled_from source instances =
    if not (list_all (λ instance. is_finished instance.phase) instances) then None
    else (if is_none source.expand then pushed_by_first instances
    else Some (list_of (filter_map pushed_by_one instances)))

-- what a source has for an expansion by its instances, where all have finished
abbrev pub sourced_from : Task → List Instance → Option SourceValues
sourced_from source instances =
    if not (list_all (λ instance. is_finished instance.phase) instances) then None
    else (if is_none source.expand then Some (SourceValues.Pushed (pushed_by_first instances))
    else Some (SourceValues.Each (map pushed_by_one instances)))

abbrev pub is_failed_phase : Phase → Bool
is_failed_phase (Phase.Finished outcome) = is_failed outcome
is_failed_phase _ = false

abbrev pub is_failed_instance : Instance → Bool
is_failed_instance instance = is_failed_phase instance.phase

-- instances fail their run where one has not finished, or one of a leaf has failed
abbrev pub instances_fail : Bool → List Instance → Bool
instances_fail leaf instances =
    not (list_all (λ instance. is_finished instance.phase) instances)
    || (list_any is_failed_instance instances && leaf)
