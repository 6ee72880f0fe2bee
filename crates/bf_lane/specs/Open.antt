-- A lane whose worker runs.
use Rattle.std.specs.Prelude.{◌≡◌, ◌++◌, ◌∷◌, ℕ, ◌+◌, Bool, true, false, nat_lt, List, [], length, Some, slice_get, if◌then◌else◌}
use Rattle.crossbeam_queue.specs.Passes.{Pass, view, IsPassOf}
use Rattle.bf_value.specs.declared.name.JobName.{JobName}
use Rattle.bf_xcom.specs.declared.values.Given.{Given}
use Rattle.bf_try.specs.declared.answers.Raw.{Raw}
use Rattle.bf_lane.specs.declared.messages.Job.{Job}
use Rattle.bf_lane.specs.declared.messages.Answer.{Answer}
use Rattle.bf_lane.specs.declared.relay.Log.{Log}
use Rattle.bf_lane.specs.declared.queues.Queues.{Queues}
use Rattle.bf_lane.specs.declared.queues.Seats.{Seats}
use Rattle.bf_lane.specs.Relay.{log}
use Rattle.bf_lane.specs.Lanes.{all_runs}

-- queues that nothing went through, with a pass for each kind of step
pub record IsFresh {K : Type 0} (q : Queues K) (s : Seats K) : Type 0 where
  pub puts : IsPassOf q.jobs s.puts × (view s.puts ≡ log true false [] [])
  pub takes : IsPassOf q.jobs s.takes × (view s.takes ≡ log false true [] [])
  pub sends : IsPassOf q.results s.sends × (view s.sends ≡ log true false [] [])
  pub gathers : IsPassOf q.results s.gathers × (view s.gathers ≡ log false true [] [])

-- what a scheduler has submitted to a lane, and gathered of it
pub record Scheduled : Type 0 where
  pub submitted : List Job
  pub gathered : List Answer

abbrev pub scheduled : List Job → List Answer → Scheduled
scheduled s g = record { submitted = s; gathered = g }

-- an answer is awaited
abbrev pub awaits : Scheduled → Bool
awaits lane = nat_lt (length lane.gathered) (length lane.submitted)

-- the lane at this place awaits no answer
pub record IsIdleAt (lanes : List Scheduled) (at : ℕ) : Type 0 where
  pub lane : Scheduled
  pub here : slice_get lanes at ≡ Some lane
  pub idle : awaits lane ≡ false

-- the passes of a lane whose worker runs, and whether it awaits the one answer that may be awaited
pub record IsOpen {K : Type 0} (q theirs : Queues K) (puts : Pass Job (Log Job))
    (gathers : Pass Answer (Log Answer)) (is_busy : Bool) : Type 0 where
  pub of_jobs : IsPassOf q.jobs puts
  pub of_results : IsPassOf q.results gathers
  pub puts_are : view puts ≡ log true false (view puts).put []
  pub gathers_are : view gathers ≡ log false true [] (view gathers).taken
  pub runs : all_runs (view puts).put ≡ true
  pub queues_are : theirs ≡ q
  pub one_awaited : length (view puts).put
      ≡ length (view gathers).taken + (if is_busy then 1 else 0)

-- what the runner may answer and give up is what the lane carries
pub record Fulfils (may_answer : JobName → Given → Raw → Type 0) (may_give_up : JobName → Given
    → Type 0) (answers : JobName → Given → Raw → Type 0) (gives_up : JobName → Given
    → Type 0) : Type 0 where
  pub answer : (n : JobName) (g : Given) (r : Raw) → may_answer n g r → answers n g r
  pub give_up : (n : JobName) (g : Given) → may_give_up n g → gives_up n g

abbrev pub StartsWith : {X : Type 0} → List X → List X → Type 0
StartsWith {X} xs ys = (rest : List X) × (xs ≡ ys ++ rest)
