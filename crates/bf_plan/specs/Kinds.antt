-- The names of kinds of tasks, of weight rules and of context variables.
use Rattle.std.specs.Prelude.{ℕ, List, codes, if◌then◌else◌, Option, Some, None}
use Rattle.std.specs.Str.{bytes_eq}
use Rattle.bf_plan.specs.declared.kinds.TaskKind.{TaskKind}
use Rattle.bf_plan.specs.declared.kinds.WeightRule.{WeightRule}
use Rattle.bf_plan.specs.declared.kinds.ContextVariable.{ContextVariable}

unfoldable pub kind_named : List ℕ → Option TaskKind
kind_named s =
    if bytes_eq s (codes "program") then Some TaskKind.Program
    else (if bytes_eq s (codes "branch") then Some TaskKind.Branch else None)

unfoldable pub weight_rule_named : List ℕ → Option WeightRule
weight_rule_named s =
    if bytes_eq s (codes "downstream") then Some WeightRule.Downstream
    else (if bytes_eq s (codes "upstream") then Some WeightRule.Upstream
    else (if bytes_eq s (codes "absolute") then Some WeightRule.Absolute else None))

unfoldable pub context_named : List ℕ → Option ContextVariable
context_named s =
    if bytes_eq s (codes "logical_date") then Some ContextVariable.LogicalDate
    else (if bytes_eq s (codes "data_interval_start") then Some ContextVariable.DataIntervalStart
    else (if bytes_eq s (codes "data_interval_end") then Some ContextVariable.DataIntervalEnd
    else (if bytes_eq s (codes "dag_id") then Some ContextVariable.DagId
    else (if bytes_eq s (codes "task_id") then Some ContextVariable.TaskId
    else (if bytes_eq s (codes "map_index") then Some ContextVariable.MapIndex
    else (if bytes_eq s (codes "try_number") then Some ContextVariable.TryNumber else None))))))
