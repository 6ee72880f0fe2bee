-- Why something is decided of a task in a run: the line of the decision that made it so.
use Rattle.std.specs.Prelude.{ℕ, ◌==◌, not, ◌&&◌, if◌then◌else◌, List, [], ◌∷◌, map, Option, None, Some}
use Rattle.std.specs.List.{list_any, list_all}
use Rattle.bf_core.specs.Terms.{Xval, Dag, TaskValue, Given, Items, Verdict, task_of, items, verdict}
use Rattle.bf_core.specs.declared.decision.Decision.{Decision}
use Rattle.bf_core.specs.Deciding.{Seen, lets_decide_in, branch_is, branch_skips, is_blocked_in, counts_over, lets_pass_in, pulled}

pub data Reason : Type 0 where
  waits : Reason
  not_followed : Reason
  branch_is_blocked : Reason
  upstream_is_blocked : Reason
  rule_skips : Reason
  rule_fails : Reason
  past_has_not_passed : Reason
  items_are_missing : Reason
  has_no_items : Reason
  runs : List Given → Reason

-- of an expanded task, by its items
abbrev pub by_items : List (Option Xval) → Items → Reason
by_items pulled Items.Missing = items_are_missing
by_items pulled (Items.List []) = has_no_items
by_items pulled (Items.List (first ∷ rest)) =
    runs (map (λ item. record { item = Some item; pulled = pulled }) (first ∷ rest))

-- of a task that goes on, by the source of its items
abbrev pub cause_by_source_of : Dag → (ℕ → Seen) → List (Option Xval) → Option ℕ → Reason
cause_by_source_of dag seen pulled None = runs (record { item = None; pulled = pulled } ∷ [])
cause_by_source_of dag seen pulled (Some source) =
    elim (seen source).value [
      | None ↦ waits
      | Some value ↦ by_items pulled
          (items (task_of dag source) value)
    ]

-- of one that depends on its past, and else would have this reason
abbrev pub by_past : Reason → Option TaskValue → Reason
by_past goes_on None = waits
by_past goes_on (Some value) = if lets_pass_in value then goes_on else past_has_not_passed

abbrev pub cause_by_verdict_of : Dag → ℕ → (ℕ → Seen) → Option TaskValue → ℕ → Verdict → Reason
cause_by_verdict_of dag run seen before task Verdict.Wait = waits
cause_by_verdict_of dag run seen before task Verdict.Blocked = upstream_is_blocked
cause_by_verdict_of dag run seen before task Verdict.Skip = rule_skips
cause_by_verdict_of dag run seen before task Verdict.UpstreamFailed = rule_fails
cause_by_verdict_of dag run seen before task Verdict.Run =
    if (task_of dag task).depends_on_past && not (run == 0)
    then by_past (cause_by_source_of dag seen (pulled dag seen task) (task_of dag task).expand) before
    else cause_by_source_of dag seen (pulled dag seen task) (task_of dag task).expand

-- the first line that decides
unfoldable pub reason : Dag → ℕ → (ℕ → Seen) → Option TaskValue → ℕ → Reason
reason dag run seen before task =
    if not (list_all (lets_decide_in dag (task_of dag task) seen) (task_of dag task).upstreams)
    then waits
    else (if list_any (λ upstream. branch_is dag (branch_skips dag task upstream) upstream
    (seen upstream).value) (task_of dag task).upstreams then not_followed
    else (if list_any (λ upstream. branch_is dag is_blocked_in upstream (seen upstream).value)
    (task_of dag task).upstreams then branch_is_blocked
    else cause_by_verdict_of dag run seen before task
    (verdict (task_of dag task).rule (counts_over seen (task_of dag task).upstreams))))

-- what is decided for a reason
abbrev pub decided_for : Reason → Decision
decided_for waits = Decision.Wait
decided_for not_followed = Decision.Skipped
decided_for branch_is_blocked = Decision.Blocked
decided_for upstream_is_blocked = Decision.Blocked
decided_for rule_skips = Decision.Skipped
decided_for rule_fails = Decision.UpstreamFailed
decided_for past_has_not_passed = Decision.Blocked
decided_for items_are_missing = Decision.UpstreamFailed
decided_for has_no_items = Decision.Skipped
decided_for (runs given) = Decision.Instances given
