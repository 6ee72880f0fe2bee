-- The runner over the table that answers as a report tells.
use Rattle.std.specs.Prelude.{◌≡◌, List, map}
use Rattle.bf_value.specs.declared.name.JobName.{JobName}
use Rattle.bf_interval.specs.declared.interval.Interval.{Interval}
use Rattle.bf_plan.specs.declared.plan.Dag.{Dag}
use Rattle.bf_xcom.specs.declared.values.Given.{Given}
use Rattle.bf_try.specs.declared.answers.Raw.{Raw}
use Rattle.bf_table.specs.Tables.{Answering, answer_of, dates_in}
use Rattle.bf_report.specs.declared.report.Report.{Report}
use Rattle.bf_answers.specs.Answers.{answers_in}

-- it answers tries of these tasks in runs over these data intervals
abbrev pub answering : Dag → List Interval → Report → Answering
answering dag intervals report =
    record {
      dag = dag;
      dates = dates_in (map (λ interval. interval.start) intervals);
      entries = answers_in report;
    }

-- its answer to a try, whatever that is given
abbrev pub MayAnswer : Dag → List Interval → Report → JobName → Given → Raw → Type 0
MayAnswer dag intervals report name given raw =
    raw ≡ answer_of (answering dag intervals report) name
