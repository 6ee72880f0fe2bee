-- What is kept of a journal whose failed tries are made again.
use Rattle.std.specs.Prelude.{ℕ, suc, ◌&&◌, Bool, false, not, if◌then◌else◌, Option, Some, None}
use Rattle.std.specs.List.{list_any, range_with_len}
use Rattle.bf_value.specs.declared.name.JobName.{JobName}
use Rattle.bf_plan.specs.declared.plan.Dag.{Dag}
use Rattle.bf_plan.specs.Plans.{task_of}
use Rattle.bf_try.specs.declared.ledger.Entry.{Entry}
use Rattle.bf_try.specs.Tries.{Ledger, is_failed}

abbrev pub has_failed : Option Entry → Bool
has_failed None = false
has_failed (Some entry) = is_failed entry.outcome

-- the try is kept, and succeeded or was skipped
abbrev pub has_passed : Option Entry → Bool
has_passed None = false
has_passed (Some entry) = not (is_failed entry.outcome)

-- the try of the same instance that has this number
abbrev pub with_attempt : JobName → ℕ → JobName
with_attempt n attempt = record { run = n.run; task = n.task; index = n.index; attempt = attempt }

-- one of the tries that the instance may have succeeded or was skipped
abbrev pub some_passed : Dag → Ledger → JobName → Bool
some_passed dag kept n =
    list_any (λ attempt. has_passed (kept (with_attempt n attempt)))
    (range_with_len 1 (suc (task_of dag n.task).retries))

-- all but the failed tries of instances that neither succeeded nor were skipped
unfoldable pub without_failed : Dag → Ledger → Ledger
without_failed dag kept n =
    if has_failed (kept n) && not (some_passed dag kept n) then None else kept n
