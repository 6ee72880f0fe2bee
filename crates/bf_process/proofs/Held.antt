-- What holds of the command of a try's task holds of the try.
use Rattle.std.proofs.Common.{◌≡◌, List, Some, slice_get, ◌∙◌, subst}
use Rattle.bf_value.specs.declared.name.JobName.{JobName}
use Rattle.bf_plan.specs.declared.plan.Task.{Task}
use Rattle.bf_plan.specs.declared.plan.Dag.{Dag}
use Rattle.bf_interval.specs.declared.interval.Interval.{Interval}
use Rattle.bf_words.specs.declared.context.JobContext.{JobContext}
use Rattle.bf_xcom.specs.declared.values.Given.{Given}
use Rattle.bf_words.specs.Words.{words_of}
use Rattle.bf_failure.specs.Tried.{IsContextOf}
use Rattle.bf_process.specs.Words.{HoldsOfTry, Tried}

pub holds_of_try : (other : Type 0) (P : Tried → Type 0) (dag : Dag) (intervals : List Interval) (name : JobName) (given : Given) (context : JobContext) (task : Task)
    → IsContextOf dag intervals name context → Some task ≡ slice_get dag.tasks name.task → P (record { words = words_of context given task.command; context = context; run = name.run })
    → HoldsOfTry other P dag name given (slice_get dag.tasks name.task) (slice_get intervals name.run)
holds_of_try other P dag intervals name given context task of there holds =
    let found : Some task ≡ Some of.task = there ∙ of.task_there in
    let same : task ≡ of.task = cc in
    rw (of.task_there, of.run_there) (record {
      context = context;
      is_context = of.is_context;
      holds = subst (λ (t : Task). P (record { words = words_of context given t.command; context = context; run = name.run })) same holds;
    })
