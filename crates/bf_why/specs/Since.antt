-- What a rule says of a task, and since when it says so.
use Rattle.std.specs.Prelude.{ℕ, ◌+◌, nat_lt, Bool, true, false, if◌then◌else◌, List, [], ◌∷◌, ◌++◌, codes, length, Option, Some, slice_get}
use Rattle.std.specs.List.{flat_map}
use Rattle.bf_core.specs.Terms.{Counts, Dag, Rule, Verdict, task_of}
use Rattle.bf_core.specs.Deciding.{counts_in}
use Rattle.bf_report.specs.declared.report.TaskReport.{TaskReport}
use Rattle.bf_wording.specs.Numbers.{number_text}
use Rattle.bf_wording.specs.Lists.{name_list_of}
use Rattle.bf_reason.specs.Settled.{value_among}
use Rattle.bf_why.specs.declared.states.States.{States}

abbrev pub rule_text_of : Rule → List ℕ
rule_text_of Rule.AllSuccess = codes "all_success"
rule_text_of Rule.AllFailed = codes "all_failed"
rule_text_of Rule.AllSkipped = codes "all_skipped"
rule_text_of Rule.AllDone = codes "all_done"
rule_text_of Rule.OneSuccess = codes "one_success"
rule_text_of Rule.OneFailed = codes "one_failed"
rule_text_of Rule.OneDone = codes "one_done"
rule_text_of Rule.NoneFailed = codes "none_failed"
rule_text_of Rule.NoneFailedMinOneSuccess = codes "none_failed_min_one_success"
rule_text_of Rule.NoneSkipped = codes "none_skipped"
rule_text_of Rule.Always = codes "always"

-- what a rule says; it neither waits nor blocks where it is asked why
abbrev pub verdict_text_of : Verdict → List ℕ
verdict_text_of Verdict.Skip = codes "skipped"
verdict_text_of Verdict.UpstreamFailed = codes "upstream_failed"
verdict_text_of verdict = codes "run"

abbrev pub failures : States
failures = record { success = false; failed = true; upstream_failed = true; skipped = false }

abbrev pub successes : States
successes = record { success = true; failed = false; upstream_failed = false; skipped = false }

abbrev pub skips : States
skips = record { success = false; failed = false; upstream_failed = false; skipped = true }

-- why a rule says so: words, or the upstreams with an instance in these states
pub data Since : Type 0 where
  words : List ℕ → Since
  because_of_states : States → Since

abbrev pub since : Rule → Verdict → Since
since Rule.AllSuccess Verdict.UpstreamFailed = because_of_states failures
since Rule.AllSuccess Verdict.Skip = because_of_states skips
since Rule.AllSuccess verdict = words (codes "since all are success")
since Rule.AllFailed Verdict.Skip = because_of_states (record successes { skipped = true })
since Rule.AllFailed verdict = words (codes "since all are failed or upstream_failed")
since Rule.AllSkipped Verdict.Skip = because_of_states (record failures { success = true })
since Rule.AllSkipped verdict = words (codes "since all are skipped")
since Rule.AllDone verdict = words (codes "since all are done")
since Rule.OneSuccess Verdict.UpstreamFailed =
    words (codes "since none is a success and not all are skipped")
since Rule.OneSuccess Verdict.Skip = words (codes "since all are skipped")
since Rule.OneSuccess verdict = because_of_states successes
since Rule.OneFailed Verdict.Skip = words (codes "since none is failed or upstream_failed")
since Rule.OneFailed verdict = because_of_states failures
since Rule.OneDone Verdict.Skip = words (codes "since none is success or failed")
since Rule.OneDone verdict = because_of_states (record successes { failed = true })
since Rule.NoneFailed Verdict.UpstreamFailed = because_of_states failures
since Rule.NoneFailed verdict = words (codes "since none is failed or upstream_failed")
since Rule.NoneFailedMinOneSuccess Verdict.UpstreamFailed = because_of_states failures
since Rule.NoneFailedMinOneSuccess Verdict.Skip = words (codes "since none is a success")
since Rule.NoneFailedMinOneSuccess verdict =
    words (codes "since none is failed or upstream_failed and not all are skipped")
since Rule.NoneSkipped Verdict.Skip = because_of_states skips
since Rule.NoneSkipped verdict = words (codes "since none is skipped")
since Rule.Always verdict = words (codes "whatever came of them")

-- ---- the upstreams that are named

-- how many instances are in these states
abbrev pub count_of : States → Counts → ℕ
count_of states counts =
    (if states.success then counts.success else 0) + (if states.failed then counts.failed else 0)
    + (if states.upstream_failed then counts.upstream_failed else 0) + (if states.skipped
    then counts.skipped else 0)

abbrev pub has_instance_of : List TaskReport → States → ℕ → Bool
has_instance_of tasks states task = nat_lt 0 (count_of states (counts_in (value_among tasks task)))

abbrev pub shared : List ℕ → ℕ → ℕ → List ℕ
shared id n all =
    id ++ (codes " (" ++ (number_text n ++ (codes " of " ++ (number_text all ++ codes ")"))))

-- of an expanded task with how many of its instances, as `load (1 of 3)`
abbrev pub with_share : List ℕ → ℕ → Option TaskReport → List ℕ
with_share id n (Some (TaskReport.Mapped instances)) = shared id n (length instances)
with_share id n task = id

abbrev pub name_in : Dag → List TaskReport → States → ℕ → List ℕ
name_in dag tasks states task =
    with_share (task_of dag task).id (count_of states (counts_in (value_among tasks task)))
    (slice_get tasks task)

-- an upstream with an instance in these states
abbrev pub name_where : Dag → List TaskReport → States → ℕ → List (List ℕ)
name_where dag tasks states task =
    if has_instance_of tasks states task then name_in dag tasks states task ∷ [] else []

-- those upstreams of the task
abbrev pub names_in : Dag → List TaskReport → ℕ → States → List (List ℕ)
names_in dag tasks task states = flat_map (name_where dag tasks states) (task_of dag task).upstreams

abbrev pub since_text_of : Dag → List TaskReport → ℕ → Since → List ℕ
since_text_of dag tasks task (words text) = text
since_text_of dag tasks task (because_of_states states) =
    codes "because of " ++ name_list_of 5 (names_in dag tasks task states)
