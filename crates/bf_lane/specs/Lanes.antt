-- The four lists of a lane: what was submitted and taken of its jobs, what was sent and gathered of its results.
use Rattle.std.specs.Prelude.{◌≡◌, ℕ, Bool, true, false, List, [], ◌∷◌, ◌++◌, All}
use Rattle.bf_value.specs.declared.name.JobName.{JobName}
use Rattle.bf_xcom.specs.declared.values.Given.{Given}
use Rattle.bf_try.specs.declared.answers.Raw.{Raw}
use Rattle.bf_try.specs.declared.runner.RunnerFault.{RunnerFault}
use Rattle.bf_try.specs.declared.runner.RunnerFault.TheVariants as fault
use Rattle.bf_try.specs.Asked.{Asked, Answered}
use Rattle.bf_lane.specs.declared.messages.Job.{Job}
use Rattle.bf_lane.specs.declared.messages.Job.TheVariants.{Run, Stop}
use Rattle.bf_lane.specs.declared.messages.Answer.{Answer}
use Rattle.bf_lane.specs.declared.messages.Answer.TheVariants.{Done, Gave}

-- the tries among the jobs, with what they are given; a stop has none
abbrev pub asked : List Job → List Asked
asked [] = []
asked (Run t ∷ js) = t ∷ asked js
asked (Stop ∷ js) = asked js

abbrev pub asked_by : Answer → Asked
asked_by (Done d) = record { name = d.name; given = d.given }
asked_by (Gave t f) = t

-- the tries that the answers are for
abbrev pub answered : List Answer → List Asked
answered [] = []
answered (a ∷ as') = asked_by a ∷ answered as'

-- no stop is among the jobs
abbrev pub all_runs : List Job → Bool
all_runs [] = true
all_runs (Run t ∷ js) = all_runs js
all_runs (Stop ∷ js) = false

-- the answer is one that the runner may give
abbrev pub IsAllowedBy : (JobName → Given → Raw → Type 0) → (JobName → Given → Type 0) → Answer
    → Type 0
IsAllowedBy may_answer may_give_up (Done d) = may_answer d.name d.given d.raw
IsAllowedBy may_answer may_give_up (Gave t fault.OutOfMemory) = Unit {0}
IsAllowedBy may_answer may_give_up (Gave t fault.GaveUp) = may_give_up t.name t.given

-- the answer is one by which no try is given up
abbrev pub IsNoGivingUp : Answer → Type 0
IsNoGivingUp (Done d) = Unit {0}
IsNoGivingUp (Gave t fault.OutOfMemory) = Unit {0}
IsNoGivingUp (Gave t fault.GaveUp) = ⊥

-- each try that was taken has its answer, in order, and the runner allows it
pub record Answers (may_answer : JobName → Given → Raw → Type 0) (may_give_up : JobName → Given
    → Type 0) (taken : List Job) (sent : List Answer) : Type 0 where
  pub same : answered sent ≡ asked taken
  pub allowed : All (IsAllowedBy may_answer may_give_up) sent

pub record FourLists : Type 0 where
  pub submitted : List Job
  pub taken : List Job
  pub sent : List Answer
  pub gathered : List Answer

-- all that was submitted was taken, each of its tries has its answer, in the same order, and each answer is allowed
pub record IsClosed (may_answer : JobName → Given → Raw → Type 0) (may_give_up : JobName → Given
    → Type 0) (l : FourLists) : Type 0 where
  pub taken_is : l.taken ≡ l.submitted
  pub sent_all : answered l.sent ≡ asked l.submitted
  pub gathered_all : answered l.gathered ≡ asked l.submitted
  pub allowed : All (IsAllowedBy may_answer may_give_up) l.gathered
