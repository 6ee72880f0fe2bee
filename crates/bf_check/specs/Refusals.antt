-- Why `check` refuses a draft.
use Rattle.std.specs.Prelude.{◌≡◌, ℕ, ◌<◌, ◌&&◌, nat_lt, true, false, not, Bool, List, [], map, slice_get, Contains, Option, Some, None, unwrap_or, is_none, is_some, ◌++◌, codes}
use Rattle.std.specs.List.{join_with_byte, list_any, slice_index_or}
use Rattle.std.specs.Str.{bytes_eq}
use Rattle.bf_graph.specs.Edges.{IsAcyclic}
use Rattle.bf_graph.specs.Cycles.{IsNamedCycle}
use Rattle.bf_graph.specs.Shape.{Shape}
use Rattle.bf_read.specs.declared.draft.Draft.{Draft}
use Rattle.bf_read.specs.declared.draft.PoolDraft.{PoolDraft}
use Rattle.bf_read.specs.declared.draft.TaskDraft.{TaskDraft}
use Rattle.bf_read.specs.Drafts.{pulled_in}
use Rattle.bf_rule.specs.Names.{rule_named}
use Rattle.bf_rule.specs.Verdicts.{is_waiting}
use Rattle.bf_check.specs.declared.fault.CheckFault.{CheckFault}
use Rattle.bf_check.specs.declared.fault.CheckFault.TheVariants.{Task, Cycle, BadCron, NeverFires, BadZone, OutOfMemory}
use Rattle.bf_check.specs.declared.fault.TaskFault.{TaskFault}
use Rattle.bf_check.specs.declared.fault.TaskFault.TheVariants.{UnknownUpstream, UnknownPool, SlotsBeyondPool, BadRule, PullNotSettled, ExpandSource, ExpandRule, BranchMisuse}
use Rattle.bf_cron.specs.Cron.{schedule_of}
use Rattle.bf_cron.specs.declared.spec.CronSpec.{CronSpec}
use Rattle.bf_plan.specs.Plans.{is_branch_kind}
use Rattle.bf_check.specs.Schedules.{Fires, IsScheduled, NeverFiresIn, IsNoZone}
use Rattle.bf_plan.specs.Sound.{IsSettledAncestor}
use Rattle.bf_check.specs.Checking.{ids_of, number_of, pool_number, pools_in, rule_of, dag_of, shape_in}

-- ---- what may be wrong with a task

-- an upstream of the task is the id of no task
abbrev pub has_unknown_upstream : List (List ℕ) → TaskDraft → Bool
has_unknown_upstream ids task = list_any (λ id. is_none (number_of ids id)) task.upstreams

-- the task names no pool that is there
abbrev pub has_unknown_pool : List PoolDraft → TaskDraft → Bool
has_unknown_pool pools task = is_none (pool_number pools task.pool)

-- how many slots the pool of the task has
abbrev pub slots_for : List PoolDraft → TaskDraft → ℕ
slots_for pools task =
    slice_index_or (map (λ pool. pool.slots) pools) (unwrap_or (pool_number pools task.pool) 0) 0

-- the task takes more slots than its pool has
abbrev pub takes_too_much : List PoolDraft → TaskDraft → Bool
takes_too_much pools task = nat_lt (slots_for pools task) task.pool_slots

-- the task's rule is none of the eleven
abbrev pub has_bad_rule : TaskDraft → Bool
has_bad_rule task = is_none (rule_named task.rule)

-- the task of an id is there, and a settled ancestor of the task t
abbrev pub MayPull : Draft → ℕ → List ℕ → Type 0
MayPull draft t id =
    (a : ℕ) × (number_of (ids_of draft.tasks) id ≡ Some a) × IsSettledAncestor (dag_of draft) t a

-- the task t pulls from one that it may not pull from
abbrev pub PullsUnsettled : Draft → ℕ → TaskDraft → Type 0
PullsUnsettled draft t task =
    (id : List ℕ) × Contains (pulled_in task.command) id × ¬ (MayPull draft t id)

-- the task t pulls from the one of that id, from which it may not pull
pub record IsUnsettledPull (draft : Draft) (t : ℕ) (id : List ℕ) : Type 0 where
  pub task : TaskDraft
  pub is_task : slice_get draft.tasks t ≡ Some task
  pub pulled : Contains (pulled_in task.command) id
  pub unsettled : ¬ (MayPull draft t id)

abbrev pub is_no_upstream : TaskDraft → Option (List ℕ) → Bool
is_no_upstream task (Some id) = not (list_any (bytes_eq id) task.upstreams)
is_no_upstream task None = false

-- the task is expanded over one that isn't directly upstream
abbrev pub expands_no_upstream : TaskDraft → Bool
expands_no_upstream task = is_no_upstream task task.expand

-- the task is expanded, and may be decided before its upstreams are settled
abbrev pub expands_early : TaskDraft → Bool
expands_early task = is_some task.expand && not (is_waiting (rule_of task))

-- the task is a branch that is expanded
abbrev pub expands_branch : TaskDraft → Bool
expands_branch task = is_some task.expand && is_branch_kind task.kind

-- ---- which of several faults is answered

-- the number of a refusal
abbrev pub refusal_number_of : TaskFault → ℕ
refusal_number_of UnknownUpstream = 6
refusal_number_of UnknownPool = 8
refusal_number_of SlotsBeyondPool = 9
refusal_number_of BadRule = 10
refusal_number_of PullNotSettled = 14
refusal_number_of ExpandSource = 15
refusal_number_of ExpandRule = 16
refusal_number_of BranchMisuse = 17

-- want of memory has no number
abbrev pub check_refusal_number_of : CheckFault → Option ℕ
check_refusal_number_of (Task fault id) = Some (refusal_number_of fault)
check_refusal_number_of (Cycle ids) = Some 7
check_refusal_number_of BadCron = Some 11
check_refusal_number_of NeverFires = Some 12
check_refusal_number_of BadZone = Some 13
check_refusal_number_of OutOfMemory = None

-- the words of a task's fault
abbrev pub task_fault_text : TaskFault → List ℕ
task_fault_text UnknownUpstream = codes "unknown upstream"
task_fault_text UnknownPool = codes "unknown pool"
task_fault_text SlotsBeyondPool = codes "slots beyond pool"
task_fault_text BadRule = codes "bad rule"
task_fault_text PullNotSettled = codes "pull not settled"
task_fault_text ExpandSource = codes "expand source"
task_fault_text ExpandRule = codes "expand rule"
task_fault_text BranchMisuse = codes "branch misuse"

-- the words; the ids of a cycle stand with one space between each two
abbrev pub fault_text : CheckFault → List ℕ
fault_text (Task fault id) = task_fault_text fault ++ codes ": " ++ id
fault_text (Cycle ids) = codes "cycle: " ++ join_with_byte 32 ids
fault_text BadCron = codes "bad cron"
fault_text NeverFires = codes "never fires"
fault_text BadZone = codes "bad zone"
fault_text OutOfMemory = codes "out of memory"

-- the task t of the draft has this fault
abbrev pub Has : Draft → TaskFault → ℕ → TaskDraft → Type 0
Has draft UnknownUpstream t task = has_unknown_upstream (ids_of draft.tasks) task ≡ true
Has draft UnknownPool t task = has_unknown_pool (pools_in draft.pools) task ≡ true
Has draft SlotsBeyondPool t task = takes_too_much (pools_in draft.pools) task ≡ true
Has draft BadRule t task = has_bad_rule task ≡ true
Has draft PullNotSettled t task = PullsUnsettled draft t task
Has draft ExpandSource t task = expands_no_upstream task ≡ true
Has draft ExpandRule t task = expands_early task ≡ true
Has draft BranchMisuse t task = expands_branch task ≡ true

-- no task has this fault
abbrev pub NoneHas : Draft → TaskFault → Type 0
NoneHas draft fault =
    (t : ℕ) (task : TaskDraft) → slice_get draft.tasks t ≡ Some task → ¬ (Has draft fault t task)

-- the id is that of the first task in the file with this fault
pub record IsFirst (draft : Draft) (fault : TaskFault) (id : List ℕ) : Type 0 where
  pub t : ℕ
  pub task : TaskDraft
  pub there : slice_get draft.tasks t ≡ Some task
  pub has : Has draft fault t task
  pub none_before : (s : ℕ) (other : TaskDraft) → s < t → slice_get draft.tasks s ≡ Some other
      → ¬ (Has draft fault s other)
  pub id_is : id ≡ task.id

-- the ids are those of the tasks of the cycle that a refusal names
abbrev pub NameCycle : Shape → List (List ℕ) → Type 0
NameCycle shape names =
    (ts : List ℕ) × IsNamedCycle shape.upstreams ts
    × (names ≡ map (λ t. slice_index_or shape.ids t []) ts)

-- the tasks and edges of the draft have no fault whose number is below n
pub record HasNoneBelow (draft : Draft) (n : ℕ) : Type 0 where
  pub tasks : (fault : TaskFault) → refusal_number_of fault < n → NoneHas draft fault
  pub edges : 7 < n → IsAcyclic (shape_in draft.tasks).upstreams

-- the tasks and edges of the draft have no fault
pub record HasNoFault (draft : Draft) : Type 0 where
  pub tasks : (fault : TaskFault) → NoneHas draft fault
  pub edges : IsAcyclic (shape_in draft.tasks).upstreams

-- the draft has no fault, with this zone file
pub record IsAccepted (draft : Draft) (file : Option (List ℕ)) : Type 0 where
  pub graph : HasNoFault draft
  pub scheduled : IsScheduled draft file

-- of the faults that the draft has, with this zone file, this is the one of the least number; want of memory may stand in its place
abbrev pub IsFaultOf : Draft → Option (List ℕ) → CheckFault → Type 0
IsFaultOf draft file (Task fault id) =
    IsFirst draft fault id × HasNoneBelow draft (refusal_number_of fault)
    × (13 < refusal_number_of fault → IsScheduled draft file)
IsFaultOf draft file (Cycle ids) = NameCycle (shape_in draft.tasks) ids × HasNoneBelow draft 7
IsFaultOf draft file BadCron = (schedule_of draft.schedule ≡ None) × HasNoneBelow draft 11
IsFaultOf draft file NeverFires = NeverFiresIn draft.schedule × HasNoneBelow draft 12
IsFaultOf draft file BadZone =
    IsNoZone draft.zone file × (spec : CronSpec) × Fires draft.schedule spec × HasNoneBelow draft 13
IsFaultOf draft file OutOfMemory = Unit {0}
