-- What is kept without failed tries.
use Rattle.std.proofs.Common.{◌≡◌, ◌&&◌, Bool, true, false, cond, not, Some, None}
use Rattle.bf_value.specs.declared.name.JobName.{JobName}
use Rattle.bf_plan.specs.declared.plan.Dag.{Dag}
use Rattle.bf_try.specs.declared.ledger.Entry.{Entry}
use Rattle.bf_try.specs.Tries.{Ledger}
use Rattle.bf_journal.specs.Retrying.{has_failed, some_passed, without_failed}

-- what is left was kept
pub left_is_kept : (dag : Dag) (kept : Ledger) (n : JobName) (e : Entry) → without_failed dag kept n ≡ Some e → kept n ≡ Some e
unfolding without_failed
left_is_kept dag kept n e is = go (has_failed (kept n) && not (some_passed dag kept n)) is
  where
    go : (b : Bool) → cond b None (kept n) ≡ Some e → kept n ≡ Some e
    go true is = absurd (cc)
    go false is = is
