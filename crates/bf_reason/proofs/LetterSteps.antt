-- Letters by results.
use Rattle.std.proofs.Common.{◌≡◌, ℕ, zero, suc, Option, Some, None, is_some, Bool, false, ◌&&◌, ◌||◌, ◌==◌, if◌then◌else◌, List, [], ◌∷◌, length, map, refl, ap, ◌∙◌}
use Rattle.std.specs.List.{list_any}
use Rattle.std.specs.Str.{byte}
use Rattle.std.proofs.lemmas.Bool.{and_right}
use Rattle.std.specs.Prelude.{option_and_then, slice_get}
use Rattle.bf_clear.specs.Entries.{value_reported_at, value_by}
use Rattle.bf_core.specs.Terms.{Dag, TaskResult, task_of}
use Rattle.bf_core.specs.Deciding.{settled}
use Rattle.bf_report.specs.declared.report.InstanceReport.{InstanceReport}
use Rattle.bf_report.specs.declared.report.TaskReport.{TaskReport}
use Rattle.bf_report.specs.declared.report.RunReport.{RunReport}
use Rattle.bf_report.specs.declared.report.Report.{Report}
use Rattle.bf_reason.specs.Reasons.{reason}
use Rattle.bf_reason.specs.Runs.{tasks_in, tasks_before, tasks_in_run}
use Rattle.bf_reason.specs.Settled.{before_among, seen_among, value_among}
use Rattle.bf_reason.specs.declared.cause.StateCause.{StateCause}
use Rattle.bf_reason.specs.Causes.{cause_of}
use Rattle.bf_reason.specs.inner.Causes.{runs_with_count_in}
use Rattle.bf_reason.specs.Letters.{any_letter, ended_letter_of, expanded_digit_of, letter_by_flags_of, before_at, first_letter_of, letter_for, letter_of, uppercase_letter_of}

abbrev some_has : List TaskResult → ℕ → Bool
some_has results letter = list_any (λ ended. ended_letter_of ended.outcome ended.tries == letter) results

any_of : (letter : ℕ) (instances : List InstanceReport) → some_has (map (λ instance. instance.result) instances) letter ≡ any_letter letter instances
any_of letter [] = refl
any_of letter (instance ∷ instances) = ap (λ rest. (ended_letter_of instance.result.outcome instance.result.tries == letter) || rest) (any_of letter instances)

pub first_of : (results : List TaskResult) (instances : List InstanceReport) → results ≡ map (λ instance. instance.result) instances →
    letter_by_flags_of (some_has results (byte "f")) (some_has results (byte "r")) (some_has results (byte "s")) ≡ first_letter_of instances
first_of results instances is =
    ap (λ rs. letter_by_flags_of (some_has rs (byte "f")) (some_has rs (byte "r")) (some_has rs (byte "s"))) is
    ∙ (λ i. letter_by_flags_of (any_of (byte "f") instances i) (any_of (byte "r") instances i) (any_of (byte "s") instances i))

length_map : {X Y : Type 0} (f : X → Y) (xs : List X) → length (map f xs) ≡ length xs
length_map f [] = refl
length_map f (x ∷ xs) = ap suc (length_map f xs)

by_cause : (expanded : Bool) (cause : StateCause) (instances : List InstanceReport) →
    (if expanded && runs_with_count_in cause (length instances) then uppercase_letter_of (first_letter_of instances) else expanded_digit_of (first_letter_of instances)) ≡ letter_for expanded cause (TaskReport.Mapped instances)
by_cause expanded (StateCause.Runs count) instances = refl
by_cause expanded _ instances = ap (λ (b : Bool). if b then uppercase_letter_of (first_letter_of instances) else expanded_digit_of (first_letter_of instances)) (and_right expanded false refl)

pub mapped_by : (expanded : Bool) (cause : StateCause) (results : List TaskResult) (instances : List InstanceReport) → results ≡ map (λ instance. instance.result) instances →
    (first : ℕ) → first ≡ first_letter_of instances →
    (if expanded && runs_with_count_in cause (length results) then uppercase_letter_of first else expanded_digit_of first) ≡ letter_for expanded cause (TaskReport.Mapped instances)
mapped_by expanded cause results instances is first same =
    (λ i. if expanded && runs_with_count_in cause ((ap length is ∙ length_map _ instances) i) then uppercase_letter_of (same i) else expanded_digit_of (same i)) ∙ by_cause expanded cause instances

-- ---- by what a report has

value_there : (found : Option RunReport) (task : ℕ) → slice_get (tasks_in_run found) task ≡ option_and_then (λ run. slice_get run.tasks task) found
value_there None task = refl
value_there (Some run) task = refl

value_is : (report : Report) (run task : ℕ) → value_among (tasks_in report run) task ≡ value_reported_at report run task
value_is report run task = ap value_by (value_there (slice_get report.runs run) task)

before_is : (report : Report) (run task : ℕ) → before_among (tasks_before report run) run task ≡ before_at report run task
before_is report zero task = refl
before_is report (suc run) task = ap Some (value_is report run task)

pub letter_is : (dag : Dag) (report : Report) (run task : ℕ) (told : TaskReport) (tasks before : List TaskReport) → tasks ≡ tasks_in report run → before ≡ tasks_before report run →
    letter_for (is_some (task_of dag task).expand) (cause_of (reason dag run (seen_among tasks) (before_among before run task) task)) told ≡ letter_of dag report run task told
letter_is dag report run task told tasks before here earlier =
    (λ i. letter_for (is_some (task_of dag task).expand) (cause_of (reason dag run (seen_among (here i)) (before_among (earlier i) run task) task)) told)
    ∙ (λ i. letter_for (is_some (task_of dag task).expand) (cause_of (reason dag run (λ u. settled (value_is report run u i)) (before_is report run task i) task)) told)
