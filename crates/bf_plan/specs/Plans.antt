-- The tasks of a plan.
use Rattle.std.specs.Prelude.{ℕ, Bool, true, false, [], map, slice_index_or, None, is_some}
use Rattle.std.specs.List.{list_any}
use Rattle.bf_graph.specs.Shape.{Shape}
use Rattle.bf_plan.specs.declared.kinds.TaskKind.{TaskKind}
use Rattle.bf_rule.specs.declared.rule.Rule.{Rule}
use Rattle.bf_plan.specs.declared.plan.Task.{Task}
use Rattle.bf_plan.specs.declared.plan.Dag.{Dag}

-- a task that asks for nothing
abbrev pub no_task : Task
no_task = record {
  id = [];
  upstreams = [];
  rule = Rule.AllSuccess;
  kind = TaskKind.Program;
  command = [];
  pulls = [];
  expand = None;
  depends_on_past = false;
  retries = 0;
}

-- the task t; beyond the last one a task that asks for nothing
unfoldable pub task_of : Dag → ℕ → Task
task_of dag t = slice_index_or dag.tasks t no_task

abbrev pub is_branch_kind : TaskKind → Bool
is_branch_kind TaskKind.Branch = true
is_branch_kind TaskKind.Program = false

abbrev pub is_branch_in : Task → Bool
is_branch_in task = is_branch_kind task.kind

-- whether a task is expanded
abbrev pub expands_in : Dag → Bool
expands_in dag = list_any (λ task. is_some task.expand) dag.tasks

-- the ids and the upstreams of the tasks
abbrev pub shape_of : Dag → Shape
shape_of dag =
    record {
      ids = map (λ task. task.id) dag.tasks;
      upstreams = map (λ task. task.upstreams) dag.tasks;
    }
