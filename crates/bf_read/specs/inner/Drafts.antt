-- Drafts that a graph file may give: how many of each thing there are, and between which bounds.
use Rattle.std.specs.Prelude.{◌≡◌, ◌+◌, ◌≤◌, false, List, length}
use Rattle.std.specs.List.{list_any}
use Rattle.std.specs.Str.{bytes_eq}
use Rattle.bf_read.specs.Limits.{most_edges}
use Rattle.bf_read.specs.declared.draft.TaskDraft.{TaskDraft}
use Rattle.bf_read.specs.Drafts.{number_of_edges, IsTask}

-- a task that may follow these: none of them has its id, and its upstreams are not too many
pub record MayFollow (before : List TaskDraft) (task : TaskDraft) : Type 0 where
  pub fresh : list_any (λ other. bytes_eq task.id other.id) before ≡ false
  pub few : number_of_edges before + length task.upstreams ≤ most_edges
  pub is_task : IsTask task
