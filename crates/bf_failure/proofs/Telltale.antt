-- The line of a try that was answered may be told.
use Rattle.std.proofs.Common.{◌≡◌, ℕ, List, Option, Some, sym, ap, ◌∙◌, subst}
use Rattle.bf_value.specs.declared.name.JobName.{JobName}
use Rattle.bf_plan.specs.declared.plan.Dag.{Dag}
use Rattle.bf_interval.specs.declared.interval.Interval.{Interval}
use Rattle.bf_words.specs.declared.context.JobContext.{JobContext}
use Rattle.bf_xcom.specs.declared.values.Given.{Given}
use Rattle.bf_try.specs.Asked.{Answered}
use Rattle.bf_try.specs.declared.answers.Raw.{Raw}
use Rattle.bf_failure.specs.declared.detail.Detail.{Detail}
use Rattle.bf_failure.specs.declared.failure.Failure.{Failure}
use Rattle.bf_failure.specs.Failures.{detailed, failure_of}
use Rattle.bf_failure.specs.Told.{failed_line_of, MayTellOf}
use Rattle.bf_failure.specs.Tried.{IsContextOf}

pub may_be_told : (may_tell : List ℕ → Type 0) (may_answer : JobName → Given → Raw → Type 0) (may_know : JobName → Given → Raw → Option Detail → Type 0) (dag : Dag) (intervals : List Interval) (logs : Option (List ℕ)) → MayTellOf may_tell may_answer may_know dag intervals logs
    → (done : Answered) (detail : Option Detail) (failure found : Failure) (context : JobContext) (name same : JobName) (raw : Raw) (line : List ℕ)
    → may_answer done.name done.given done.raw → may_know done.name done.given done.raw detail → name ≡ done.name → same ≡ done.name → raw ≡ done.raw → IsContextOf dag intervals name context
    → Some failure ≡ failure_of dag same.task raw → found ≡ detailed failure detail → line ≡ failed_line_of logs context found → may_tell line
may_be_told may_tell may_answer may_know dag intervals logs may done detail failure found context name same raw line answers knows named names is_raw of fails is_found is_line = may line (record {
  done = done;
  detail = detail;
  failure = failure;
  context = context;
  may = answers;
  knows = knows;
  failed = ap (λ (n : JobName). failure_of dag n.task done.raw) (sym names) ∙ ap (failure_of dag same.task) (sym is_raw) ∙ sym fails;
  is_context = subst (λ (n : JobName). IsContextOf dag intervals n context) named of;
  is_line = is_line ∙ ap (failed_line_of logs context) is_found;
})
