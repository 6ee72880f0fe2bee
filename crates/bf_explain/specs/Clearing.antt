-- The lines that clear a task in a run, and what is cleared by them.
use Rattle.std.specs.Prelude.{◌≡◌, ℕ, ℤ, ◌+◌, ◌-◌, ◌==◌, ◌&&◌, ◌||◌, nat_lt, Bool, true, false, if◌then◌else◌, List, [], ◌∷◌, ◌++◌, Option, None, Some, codes, filter, fold, length, map, slice_get, take}
use Rattle.std.specs.Fmt.{signed_decimal}
use Rattle.std.specs.Ordering.{int_eq}
use Rattle.bf_rule.specs.Verdicts.{failures_of}
use Rattle.bf_core.specs.Terms.{Counts, Dag, is_failed}
use Rattle.bf_core.specs.Deciding.{counts_in}
use Rattle.bf_clear.specs.Entries.{value_in}
use Rattle.bf_report.specs.declared.report.InstanceReport.{InstanceReport}
use Rattle.bf_report.specs.declared.report.TaskReport.{TaskReport}
use Rattle.bf_report.specs.declared.report.RunReport.{RunReport}
use Rattle.bf_report.specs.declared.report.Report.{Report}
use Rattle.bf_dependents.specs.declared.place.Place.{Place}
use Rattle.bf_dependents.specs.Dependents.{AreDependents, Following}
use Rattle.bf_dependents.specs.Listing.{places_in}
use Rattle.bf_quoted.specs.Lines.{line_of}
use Rattle.bf_quoted.specs.Words.{quoted}
use Rattle.bf_roots.specs.declared.step.Began.{Began}
use Rattle.bf_roots.specs.declared.step.Root.{Root}
use Rattle.bf_why.specs.Decided.{id_of}
use Rattle.bf_wording.specs.Numbers.{count_text_of}
use Rattle.bf_explain.specs.declared.clearing.ClearedCount.{ClearedCount}
use Rattle.bf_explain.specs.declared.paths.Paths.{Paths}
use Rattle.bf_explain.specs.Began.{other_run_text_of}
use Rattle.bf_wording.specs.Moments.{short_moment_of}
use Rattle.bf_explain.specs.Sections.{section}

-- ---- the words of the line

abbrev pub begins_with_hyphen_in : List ℕ → Bool
begins_with_hyphen_in [] = false
begins_with_hyphen_in (first ∷ rest) = first == 45

-- an option and its word, in one where the word begins as an option does
abbrev pub option_words : List ℕ → List ℕ → List (List ℕ)
option_words name word =
    if begins_with_hyphen_in word then (name ++ (codes "=" ++ word)) ∷ [] else name ∷ word ∷ []

abbrev pub zone_words : Option (List ℕ) → List (List ℕ)
zone_words None = []
zone_words (Some path) = option_words (codes "--zone-file") path

-- the paths, behind `--` where one begins as an option does
abbrev pub path_words : Paths → List (List ℕ)
path_words paths =
    (if begins_with_hyphen_in paths.graph || begins_with_hyphen_in paths.report then codes "--" ∷ []
    else []) ++ paths.graph ∷ paths.report ∷ []

-- the start of a run that is there, as short as it is written on a line
abbrev pub short_start_of : Option RunReport → List ℕ
short_start_of None = []
short_start_of (Some run) = short_moment_of run.interval.start.nanosecond

abbrev pub short_start_in : Report → ℕ → List ℕ
short_start_in report run = short_start_of (slice_get report.runs run)

abbrev pub range_words : Report → List (List ℕ)
range_words report =
    codes "--from" ∷ short_start_in report 0 ∷ codes "--to"
    ∷ short_start_in report (length report.runs - 1) ∷ []

abbrev pub index_words : Option ℤ → List (List ℕ)
index_words None = []
index_words (Some index) = option_words (codes "--index") (signed_decimal index)

abbrev pub seed_words : Dag → Report → Place → List (List ℕ)
seed_words dag report place =
    (option_words (codes "--task") (id_of dag place.task) ++ codes "--run"
    ∷ short_start_in report place.run ∷ []) ++ index_words place.index

abbrev pub clear_words_of : Paths → Dag → Report → Place → List (List ℕ)
clear_words_of paths dag report place =
    (((codes "backfill" ∷ codes "clear" ∷ [] ++ zone_words paths.zone_file) ++ range_words report)
    ++ seed_words dag report place) ++ path_words paths

-- the report that it prints goes into a file beside the report
abbrev pub clear_line_of : Paths → Dag → Report → Place → List ℕ
clear_line_of paths dag report place =
    line_of (clear_words_of paths dag report place)
    ++ (codes " > " ++ quoted (paths.report ++ codes ".new"))

-- ---- what is cleared

-- the run of the last of these places
abbrev pub last_run_of : ℕ → List Place → ℕ
last_run_of run places = fold (λ last place. place.run) run places

-- how many tasks follow from the place, in how many runs, from its own to the last
abbrev pub IsCleared : Dag → ℕ → Place → ClearedCount → Type 0
IsCleared dag runs place cleared =
    (all : Following) × AreDependents dag (place ∷ []) runs all
    × (cleared.tasks ≡ length (places_in dag all runs))
    × (cleared.runs ≡ last_run_of place.run (places_in dag all runs) + 1 - place.run)

-- ---- the sections

-- another place than the one that is told of
abbrev pub place_text_of : Dag → Report → ℕ → ℕ → Place → List ℕ
place_text_of dag report run task place =
    if place.run == run && place.task == task then [] else codes " "
    ++ (id_of dag place.task ++ other_run_text_of report run place.run)

abbrev pub clear_heading_of : List ℕ → ClearedCount → List ℕ
clear_heading_of place cleared =
    codes "clear" ++ (place ++ (codes ", with what follows from it: "
    ++ (count_text_of cleared.tasks (codes "task")
    ++ (codes " in " ++ count_text_of cleared.runs (codes "run")))))

abbrev pub clear_section : Paths → Dag → Report → ℕ → ℕ → Place → ClearedCount → List (List ℕ)
clear_section paths dag report run task place cleared =
    section (clear_heading_of (place_text_of dag report run task place) cleared)
    (clear_line_of paths dag report place ∷ [])

-- a run of `single` is of no range
abbrev pub is_of_single_in : Option RunReport → Bool
is_of_single_in None = true
is_of_single_in (Some run) = int_eq run.interval.start.nanosecond run.interval.end.nanosecond

abbrev pub IsClearSectionIf : Bool → Paths → Dag → Report → ℕ → ℕ → Place → List (List ℕ) → Type 0
IsClearSectionIf true paths dag report run task place lines = lines ≡ []
IsClearSectionIf false paths dag report run task place lines =
    (cleared : ClearedCount) × IsCleared dag (length report.runs) place cleared
    × (lines ≡ clear_section paths dag report run task place cleared)

abbrev pub IsClearSection : Paths → Dag → Report → ℕ → ℕ → Place → List (List ℕ) → Type 0
IsClearSection paths dag report run task place lines =
    IsClearSectionIf (is_of_single_in
    (slice_get report.runs place.run)) paths dag report run task place lines

-- a section for each place, in order
abbrev pub AreClearSections : Paths → Dag → Report → ℕ → ℕ → List Place → List (List ℕ) → Type 0
AreClearSections paths dag report run task [] lines = lines ≡ []
AreClearSections paths dag report run task (place ∷ places) lines =
    (one : List (List ℕ)) × (more : List (List ℕ))
    × IsClearSection paths dag report run task place one
    × AreClearSections paths dag report run task places more × (lines ≡ one ++ more)

-- ---- the places

-- the task in the run, or the one instance that is told of alone
abbrev pub place_told_of : ℕ → ℕ → TaskReport → Option ℤ → Place
place_told_of run task (TaskReport.Mapped instances) index =
    record { run = run; task = task; index = index }
place_told_of run task told index = record { run = run; task = task; index = None }

abbrev pub has_failed_in : Option InstanceReport → Bool
has_failed_in None = false
has_failed_in (Some instance) = is_failed instance.result.outcome

-- an instance is failed or upstream_failed, or has no status
abbrev pub has_failure_among : Counts → Bool
has_failure_among counts = nat_lt 0 (failures_of counts + counts.blocked)

-- so is the one instance that is told of alone, or one of the task's
abbrev pub has_failure_in : TaskReport → Option ℕ → Bool
has_failure_in (TaskReport.Mapped instances) (Some place) =
    has_failed_in (slice_get instances place)
has_failure_in told place = has_failure_among (counts_in (value_in told))

abbrev pub began_with_failure_in : Root → Bool
began_with_failure_in root =
    elim root.began [
      | Began.Failed ↦ true
      | _ ↦ false
    ]

abbrev pub root_place_of : Root → Place
root_place_of root = record { run = root.run; task = root.task; index = None }

abbrev pub root_places_of : List Root → List Place
root_places_of roots = map root_place_of (take 3 roots)

-- the first three places where it began, or else the place itself
abbrev pub root_places_or : Place → List Root → List Place
root_places_or place [] = place ∷ []
root_places_or place (root ∷ roots) = root_places_of (root ∷ roots)

-- those, where the place has a failure; of another the first three where one began
abbrev pub places_to_clear_in : Place → Bool → List Root → List Place
places_to_clear_in place true roots = root_places_or place roots
places_to_clear_in place false roots = root_places_of (filter began_with_failure_in roots)
