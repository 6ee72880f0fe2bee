-- Reasons without what the instances are given.
use Rattle.std.specs.Prelude.{length}
use Rattle.bf_reason.specs.declared.cause.StateCause.{StateCause}
use Rattle.bf_reason.specs.Reasons.{Reason, waits, not_followed, branch_is_blocked, upstream_is_blocked, rule_skips, rule_fails, past_has_not_passed, items_are_missing, has_no_items, runs}

-- of the instances of a task that runs their number is left
abbrev pub cause_of : Reason → StateCause
cause_of waits = StateCause.Waits
cause_of not_followed = StateCause.NotFollowed
cause_of branch_is_blocked = StateCause.BranchIsBlocked
cause_of upstream_is_blocked = StateCause.UpstreamIsBlocked
cause_of rule_skips = StateCause.RuleSkips
cause_of rule_fails = StateCause.RuleFails
cause_of past_has_not_passed = StateCause.PastHasNotPassed
cause_of items_are_missing = StateCause.ItemsAreMissing
cause_of has_no_items = StateCause.HasNoItems
cause_of (runs given) = StateCause.Runs (length given)
