-- Trigger rules: what the upstreams of a task, so far as they are known, say of it.
use Rattle.std.specs.Prelude.{◌≡◌, ℕ, ◌+◌, ◌≤◌, ◌==◌, nat_lt, Bool, true, false, ◌||◌, if◌then◌else◌}
use Rattle.bf_rule.specs.declared.rule.Rule.{Rule}
use Rattle.bf_rule.specs.declared.rule.Rule.TheVariants.{AllSuccess, AllFailed, AllSkipped, AllDone, OneSuccess, OneFailed, OneDone, NoneFailed, NoneFailedMinOneSuccess, NoneSkipped, Always}
use Rattle.bf_rule.specs.declared.rule.Counts.{Counts}
use Rattle.bf_rule.specs.declared.rule.Verdict.{Verdict}
use Rattle.bf_rule.specs.declared.rule.Verdict.TheVariants.{Wait, Run, Skip, UpstreamFailed, Blocked}

-- ---- counts

abbrev pub none_counted : Counts
none_counted =
    record {
      success = 0;
      failed = 0;
      upstream_failed = 0;
      skipped = 0;
      blocked = 0;
      unfinished = 0;
    }

-- the counts of two groups of instances together
abbrev pub add : Counts → Counts → Counts
add one other = record {
  success = one.success + other.success;
  failed = one.failed + other.failed;
  upstream_failed = one.upstream_failed + other.upstream_failed;
  skipped = one.skipped + other.skipped;
  blocked = one.blocked + other.blocked;
  unfinished = one.unfinished + other.unfinished;
}

-- failed, whether they ran or their upstreams had failed
abbrev pub failures_of : Counts → ℕ
failures_of counts = counts.failed + counts.upstream_failed

abbrev pub finished_of : Counts → ℕ
finished_of counts = counts.success + failures_of counts + counts.skipped

abbrev pub total_of : Counts → ℕ
total_of counts = finished_of counts + counts.blocked + counts.unfinished

-- ---- rules

-- the early rules and always need not wait for all upstreams
abbrev pub is_waiting : Rule → Bool
is_waiting OneSuccess = false
is_waiting OneFailed = false
is_waiting OneDone = false
is_waiting Always = false
is_waiting _ = true

-- what the rule looks for is among the instances finished so far
abbrev pub is_rule_met_in : Rule → Counts → Bool
is_rule_met_in OneSuccess counts = nat_lt 0 counts.success
is_rule_met_in OneFailed counts = nat_lt 0 (failures_of counts)
is_rule_met_in OneDone counts = nat_lt 0 (counts.success + counts.failed)
is_rule_met_in Always counts = true
is_rule_met_in _ counts = false

-- the table of the rules, over upstreams that have all finished
abbrev pub verdict_by_table_of : Rule → Counts → Verdict
verdict_by_table_of AllSuccess counts =
    if nat_lt 0 (failures_of counts) then UpstreamFailed
    else (if nat_lt 0 counts.skipped then Skip else Run)
verdict_by_table_of AllFailed counts = if failures_of counts == finished_of counts then Run else Skip
verdict_by_table_of AllSkipped counts = if counts.skipped == finished_of counts then Run else Skip
verdict_by_table_of AllDone counts = Run
verdict_by_table_of OneSuccess counts =
    if nat_lt 0 counts.success then Run
    else (if counts.skipped == finished_of counts then Skip else UpstreamFailed)
verdict_by_table_of OneFailed counts = if nat_lt 0 (failures_of counts) then Run else Skip
verdict_by_table_of OneDone counts = if nat_lt 0 (counts.success + counts.failed) then Run else Skip
verdict_by_table_of NoneFailed counts = if nat_lt 0 (failures_of counts) then UpstreamFailed else Run
verdict_by_table_of NoneFailedMinOneSuccess counts =
    if nat_lt 0 (failures_of counts) then UpstreamFailed
    else (if nat_lt 0 counts.success then Run else Skip)
verdict_by_table_of NoneSkipped counts = if nat_lt 0 counts.skipped then Skip else Run
verdict_by_table_of Always counts = Run

-- no upstreams, or the rule fires early: run. Else an unfinished upstream: wait. Else a blocked one: block. Else the table
unfoldable pub verdict_of : Rule → Counts → Verdict
verdict_of rule counts =
    if (total_of counts == 0) || is_rule_met_in rule counts then Run
    else (if nat_lt 0 counts.unfinished then Wait
    else (if nat_lt 0 counts.blocked then Blocked
    else verdict_by_table_of rule counts))

-- ---- what finishes later

-- the same instances counted later: no fewer are success, failed or upstream_failed, and all is the same where none was unfinished
pub record IsLater (earlier later : Counts) : Type 0 where
  pub success : earlier.success ≤ later.success
  pub failed : earlier.failed ≤ later.failed
  pub upstream_failed : earlier.upstream_failed ≤ later.upstream_failed
  pub done : earlier.unfinished ≡ 0 → earlier ≡ later
