-- What a worker has done when it returns.
use Rattle.std.specs.Prelude.{◌≡◌, true, false, List, [], ◌∷◌, ◌++◌}
use Rattle.crossbeam_queue.specs.Passes.{Pass, view, IsPassOf}
use Rattle.crossbeam_queue.specs.declared.array_queue.Doing.{Doing}
use Rattle.crossbeam_queue.specs.declared.array_queue.Slotted.{Slotted}
use Rattle.std.specs.Prelude.{Option}
use Rattle.bf_value.specs.declared.name.JobName.{JobName}
use Rattle.bf_xcom.specs.declared.values.Given.{Given}
use Rattle.bf_try.specs.declared.answers.Raw.{Raw}
use Rattle.bf_lane.specs.declared.messages.Job.{Job}
use Rattle.bf_lane.specs.declared.messages.Job.TheVariants.{Stop}
use Rattle.bf_lane.specs.declared.messages.Answer.{Answer}
use Rattle.bf_lane.specs.declared.relay.Log.{Log}
use Rattle.bf_lane.specs.Relay.{log}
use Rattle.bf_lane.specs.Lanes.{all_runs, Answers}

-- the worker took a stop last, and sent an answer to each try before it, in order, as the runner allows
pub record HasServed {Q A B C : Type 0} (may_answer : JobName → Given → Raw
    → Type 0) (may_give_up : JobName → Given → Type 0)
    (jobs : Slotted (Option Job) (Doing Job (Log Job)) Q A)
    (results : Slotted (Option Answer) (Doing Answer (Log Answer)) B C)
    (takes : Pass Job (Log Job)) (sends : Pass Answer (Log Answer)) : Type 0 where
  pub of_jobs : IsPassOf jobs takes
  pub of_results : IsPassOf results sends
  pub before : List Job
  pub runs : all_runs before ≡ true
  pub took : view takes ≡ log false true [] (before ++ Stop ∷ [])
  pub sent : view sends ≡ log true false (view sends).put []
  pub answers : Answers may_answer may_give_up before (view sends).put
