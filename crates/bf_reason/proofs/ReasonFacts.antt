-- Reasons beside decisions.
use Rattle.std.proofs.Common.{◌≡◌, ℕ, Bool, true, false, not, ◌&&◌, ◌==◌, if◌then◌else◌, List, [], ◌∷◌, Option, Some, None, refl, sym}
use Rattle.std.specs.List.{list_any, list_all}
use Rattle.bf_core.specs.Terms.{Xval, Dag, TaskValue, Items, Verdict, task_of, items, verdict}
use Rattle.bf_core.specs.declared.decision.Decision.{Decision}
use Rattle.bf_core.specs.Deciding.{Seen, lets_decide_in, branch_is, branch_skips, is_blocked_in, counts_over, lets_pass_in, pulled, mapped, instances_of, after_verdict, past_after, past_verdict_of, upstream_verdict_of, task_verdict_of, decision}
use Rattle.bf_reason.specs.Reasons.{Reason, waits, not_followed, branch_is_blocked, past_has_not_passed, by_items, cause_by_source_of, by_past, cause_by_verdict_of, reason, decided_for}

items_decide : (pulled : List (Option Xval)) (items : Items) → decided_for (by_items pulled items) ≡ mapped pulled items
items_decide pulled Items.Missing = refl
items_decide pulled (Items.List []) = refl
items_decide pulled (Items.List (first ∷ rest)) = refl

value_decides : (dag : Dag) (pulled : List (Option Xval)) (source : ℕ) (value : Option TaskValue) →
    decided_for (elim value [ None ↦ waits | Some v ↦ by_items pulled (items (task_of dag source) v) ]) ≡ elim value [ None ↦ Decision.Wait | Some v ↦ mapped pulled (items (task_of dag source) v) ]
value_decides dag pulled source None = refl
value_decides dag pulled source (Some v) = items_decide pulled (items (task_of dag source) v)

source_decides : (dag : Dag) (seen : ℕ → Seen) (pulled : List (Option Xval)) (source : Option ℕ) → decided_for (cause_by_source_of dag seen pulled source) ≡ instances_of dag seen pulled source
source_decides dag seen pulled None = refl
source_decides dag seen pulled (Some source) = value_decides dag pulled source (seen source).value

passes_decide : (dag : Dag) (seen : ℕ → Seen) (task : ℕ) (goes_on : Reason) → decided_for goes_on ≡ after_verdict dag seen task Verdict.Run → (passed : Bool) →
    decided_for (if passed then goes_on else past_has_not_passed) ≡ after_verdict dag seen task (if passed then Verdict.Run else Verdict.Blocked)
passes_decide dag seen task goes_on same true = same
passes_decide dag seen task goes_on same false = refl

-- the past, where it is asked and where it isn't
past_decides : (dag : Dag) (seen : ℕ → Seen) (task : ℕ) (asked : Bool) (before : Option TaskValue) (goes_on : Reason) → decided_for goes_on ≡ after_verdict dag seen task Verdict.Run →
    decided_for (if asked then by_past goes_on before else goes_on) ≡ after_verdict dag seen task (if asked then past_verdict_of before else Verdict.Run)
past_decides dag seen task false before goes_on same = same
past_decides dag seen task true None goes_on same = refl
past_decides dag seen task true (Some value) goes_on same = passes_decide dag seen task goes_on same (lets_pass_in value)

verdict_decides : (dag : Dag) (run : ℕ) (seen : ℕ → Seen) (before : Option TaskValue) (task : ℕ) (ruled : Verdict) →
    decided_for (cause_by_verdict_of dag run seen before task ruled) ≡ after_verdict dag seen task (past_after (task_of dag task).depends_on_past run before ruled)
verdict_decides dag run seen before task Verdict.Wait = refl
verdict_decides dag run seen before task Verdict.Blocked = refl
verdict_decides dag run seen before task Verdict.Skip = refl
verdict_decides dag run seen before task Verdict.UpstreamFailed = refl
verdict_decides dag run seen before task Verdict.Run =
    past_decides dag seen task ((task_of dag task).depends_on_past && not (run == 0)) before _ (source_decides dag seen (pulled dag seen task) (task_of dag task).expand)

-- the three tests before the rule
tests_decide : (after : Verdict → Decision) → after Verdict.Wait ≡ Decision.Wait → after Verdict.Skip ≡ Decision.Skipped → after Verdict.Blocked ≡ Decision.Blocked →
    (early skips blocked : Bool) (by : Reason) (ruled : Verdict) → decided_for by ≡ after ruled →
    decided_for (if early then waits else (if skips then not_followed else (if blocked then branch_is_blocked else by)))
    ≡ after (if early then Verdict.Wait else (if skips then Verdict.Skip else (if blocked then Verdict.Blocked else ruled)))
tests_decide after w s b true skips blocked by ruled e = sym w
tests_decide after w s b false true blocked by ruled e = sym s
tests_decide after w s b false false true by ruled e = sym b
tests_decide after w s b false false false by ruled e = e

pub reasons_decide : (dag : Dag) (run : ℕ) (seen : ℕ → Seen) (before : Option TaskValue) (task : ℕ) → decided_for (reason dag run seen before task) ≡ decision dag run seen before task
unfolding reason decision task_verdict_of upstream_verdict_of
reasons_decide dag run seen before task =
    let ups = (task_of dag task).upstreams in
    tests_decide (λ v. after_verdict dag seen task (past_after (task_of dag task).depends_on_past run before v)) refl refl refl
    (not (list_all (lets_decide_in dag (task_of dag task) seen) ups))
    (list_any (λ upstream. branch_is dag (branch_skips dag task upstream) upstream (seen upstream).value) ups)
    (list_any (λ upstream. branch_is dag is_blocked_in upstream (seen upstream).value) ups)
    (cause_by_verdict_of dag run seen before task (verdict (task_of dag task).rule (counts_over seen ups)))
    (verdict (task_of dag task).rule (counts_over seen ups))
    (verdict_decides dag run seen before task (verdict (task_of dag task).rule (counts_over seen ups)))
