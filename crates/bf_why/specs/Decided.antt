-- How a task was decided in a run, in sentences.
use Rattle.std.specs.Prelude.{ℕ, ◌==◌, Bool, true, false, if◌then◌else◌, List, [], ◌∷◌, ◌++◌, Option, None, Some, codes, is_some, length, map, slice_get}
use Rattle.std.specs.List.{flat_map}
use Rattle.bf_core.specs.Terms.{Counts, Dag, Outcome, Verdict, task_of}
use Rattle.bf_core.specs.Deciding.{branch_is, branch_skips, counts_of_results_of, counts_over, is_blocked_in}
use Rattle.bf_rule.specs.Verdicts.{total_of}
use Rattle.bf_moment.specs.Moment.{moment_text}
use Rattle.bf_report.specs.declared.report.RunReport.{RunReport}
use Rattle.bf_report.specs.declared.report.TaskReport.{TaskReport}
use Rattle.bf_xcom.specs.Pulls.{only_pushed_value_in}
use Rattle.bf_reason.specs.declared.cause.StateCause.{StateCause}
use Rattle.bf_reason.specs.Settled.{results_of, seen_among, value_among}
use Rattle.bf_wording.specs.Lists.{name_list_of}
use Rattle.bf_wording.specs.Numbers.{count_text_of}
use Rattle.bf_why.specs.Counted.{counts_text_of}
use Rattle.bf_why.specs.Since.{rule_text_of, since, since_text_of, verdict_text_of}
use Rattle.bf_wording.specs.Values.{value_text_of}

abbrev pub id_of : Dag → ℕ → List ℕ
id_of dag task = (task_of dag task).id

-- ---- branches and upstreams without a status

abbrev pub branch_sentence_of : Dag → List TaskReport → ℕ → List ℕ
branch_sentence_of dag tasks branch =
    codes "The branch " ++ (id_of dag branch
    ++ (codes " succeeded and doesn't follow it: it pushed "
    ++ (value_text_of 200 (only_pushed_value_in (results_of (value_among tasks branch))) ++ codes ".")))

-- where it is a branch that succeeded and doesn't follow the task
abbrev pub branch_where : Dag → List TaskReport → ℕ → ℕ → List (List ℕ)
branch_where dag tasks task branch =
    if branch_is dag (branch_skips dag task branch) branch (Some (value_among tasks branch))
    then branch_sentence_of dag tasks branch ∷ [] else []

abbrev pub have_no_status_of : List (List ℕ) → List ℕ
have_no_status_of names =
    name_list_of 5 names ++ (if length names == 1 then codes " has no status."
    else codes " have no status.")

abbrev pub blocked_branches_sentence_of : List (List ℕ) → List ℕ
blocked_branches_sentence_of names =
    codes "Directly upstream, the "
    ++ ((if length names == 1 then codes "branch " else codes "branches ")
    ++ have_no_status_of names)

abbrev pub blocked_upstreams_sentence_of : List (List ℕ) → List ℕ
blocked_upstreams_sentence_of names = codes "Directly upstream, " ++ have_no_status_of names

-- the upstreams of the task that are so, by their ids
abbrev pub ids_where : Dag → ℕ → (ℕ → Bool) → List (List ℕ)
ids_where dag task holds =
    flat_map (λ u. if holds u then id_of dag u ∷ [] else []) (task_of dag task).upstreams

-- ---- the rule

-- as `3 upstream instances (2 success, 1 failed)`
abbrev pub over_instances_text_of : Counts → List ℕ
over_instances_text_of counts =
    count_text_of (total_of counts) (codes "upstream instance")
    ++ (codes " (" ++ (counts_text_of counts ++ codes ")"))

abbrev pub rule_sentence_of : Dag → List TaskReport → ℕ → Verdict → List ℕ
rule_sentence_of dag tasks task verdict =
    codes "Its rule " ++ (rule_text_of (task_of dag task).rule ++ (codes ", over "
    ++ (over_instances_text_of (counts_over (seen_among tasks) (task_of dag task).upstreams)
    ++ (codes ", says " ++ (verdict_text_of verdict
    ++ (codes ", " ++ (since_text_of dag tasks task (since (task_of dag task).rule verdict)
    ++ codes ".")))))))

abbrev pub ruled_text_of : Dag → List TaskReport → ℕ → Verdict → List ℕ
ruled_text_of dag tasks task verdict =
    if length (task_of dag task).upstreams == 0
    then codes "It has no upstream tasks, so no rule holds it back."
    else rule_sentence_of dag tasks task verdict

-- ---- the past

abbrev pub came_of_outcome_of : Outcome → List ℕ
came_of_outcome_of (Outcome.Success value) = codes "was a success"
came_of_outcome_of Outcome.Failed = codes "failed"
came_of_outcome_of Outcome.Skipped = codes "was skipped"

-- of an expanded one
abbrev pub came_to_text_of : ℕ → Counts → List ℕ
came_to_text_of instances counts =
    codes "came to " ++ (count_text_of instances (codes "instance")
    ++ (codes " (" ++ (counts_text_of counts ++ codes ")")))

-- what came of a task in a run; one that isn't there had no status
abbrev pub came_of : Option TaskReport → List ℕ
came_of None = codes "had no status"
came_of (Some TaskReport.NoStatus) = codes "had no status"
came_of (Some TaskReport.Skipped) = codes "was skipped"
came_of (Some TaskReport.UpstreamFailed) = codes "was upstream_failed"
came_of (Some (TaskReport.Ran instance)) = came_of_outcome_of instance.result.outcome
came_of (Some (TaskReport.Mapped instances)) =
    came_to_text_of (length instances) (counts_of_results_of
    (map (λ instance. instance.result) instances))

-- of a task that depends on its past, by the run before
abbrev pub past_sentence_of : Option RunReport → ℕ → List ℕ
past_sentence_of None task = codes "It depends on its past, and this is the first run."
past_sentence_of (Some before) task =
    codes "It depends on its past, and in the run of "
    ++ (moment_text before.interval.start.nanosecond
    ++ (codes " it " ++ (came_of (slice_get before.tasks task) ++ codes ".")))

-- ---- the items

-- what the source of the items gave
abbrev pub items_text_of : Bool → Option TaskReport → StateCause → List ℕ
items_text_of each source StateCause.ItemsAreMissing =
    codes ", which pushed no list: it " ++ (came_of source ++ codes ".")
items_text_of true source (StateCause.Runs count) =
    codes ": " ++ (count_text_of count (codes "value") ++ codes " that its instances pushed.")
items_text_of false source (StateCause.Runs count) =
    codes ": " ++ (count_text_of count (codes "item") ++ codes " of the list that it pushed.")
items_text_of true source cause = codes ", whose instances pushed nothing."
items_text_of false source cause = codes ", which pushed an empty list."

abbrev pub expanded_sentence_of : Dag → List TaskReport → StateCause → ℕ → List ℕ
expanded_sentence_of dag tasks cause source =
    codes "It is expanded over " ++ (id_of dag source
    ++ items_text_of (is_some (task_of dag source).expand) (slice_get tasks source) cause)

-- ---- all sentences

abbrev pub past_sentences : Dag → Option RunReport → ℕ → List (List ℕ)
past_sentences dag before task =
    if (task_of dag task).depends_on_past then past_sentence_of before task ∷ [] else []

abbrev pub source_sentences : Dag → List TaskReport → StateCause → Option ℕ → List (List ℕ)
source_sentences dag tasks cause None = []
source_sentences dag tasks cause (Some source) = expanded_sentence_of dag tasks cause source ∷ []

-- why the graph decides what it does of the task, over the tasks of the run and the run before
abbrev pub decided_of : Dag → List TaskReport → Option RunReport → ℕ → StateCause → List (List ℕ)
decided_of dag tasks before task StateCause.NotFollowed =
    flat_map (branch_where dag tasks task) (task_of dag task).upstreams
decided_of dag tasks before task StateCause.BranchIsBlocked =
    blocked_branches_sentence_of (ids_where dag task
    (λ u. branch_is dag is_blocked_in u (Some (value_among tasks u)))) ∷ []
decided_of dag tasks before task StateCause.UpstreamIsBlocked =
    blocked_upstreams_sentence_of (ids_where dag task (λ u. is_blocked_in (value_among tasks u))) ∷ []
decided_of dag tasks before task StateCause.RuleSkips = ruled_text_of dag tasks task Verdict.Skip ∷ []
decided_of dag tasks before task StateCause.RuleFails =
    ruled_text_of dag tasks task Verdict.UpstreamFailed ∷ []
decided_of dag tasks before task StateCause.PastHasNotPassed =
    ruled_text_of dag tasks task Verdict.Run ∷ past_sentences dag before task
decided_of dag tasks before task cause =
    ruled_text_of dag tasks task Verdict.Run
    ∷ (past_sentences dag before task
    ++ source_sentences dag tasks cause (task_of dag task).expand)
