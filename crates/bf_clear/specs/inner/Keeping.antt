-- What is kept of a report where instances are cleared.
use Rattle.std.specs.Prelude.{ℕ, if◌then◌else◌, Option, Some, None}
use Rattle.bf_value.specs.declared.name.JobName.{JobName}
use Rattle.bf_plan.specs.declared.plan.Dag.{Dag}
use Rattle.bf_xcom.specs.declared.values.Given.{Given}
use Rattle.bf_xcom.specs.declared.values.Outcome.{Outcome}
use Rattle.bf_try.specs.declared.answers.Raw.{Raw}
use Rattle.bf_try.specs.Grades.{fits_in, GradesTo}
use Rattle.bf_report.specs.declared.report.InstanceReport.{InstanceReport}
use Rattle.bf_kept.specs.Kept.{IsAnsweredBy}
use Rattle.bf_clear.specs.Entries.{entry_of_try}
use Rattle.bf_clear.specs.Keeping.{fitting}

-- ---- answers

abbrev pub fit_outcome : Dag → ℕ → Option Outcome → Option Outcome
fit_outcome dag task None = None
fit_outcome dag task (Some outcome) = if fits_in dag task outcome then Some outcome else None

-- an answer by which a try ends so
abbrev pub IsRawFor : Option Outcome → Option Raw → Type 0
IsRawFor None None = Unit {0}
IsRawFor (Some outcome) (Some raw) = GradesTo raw outcome
IsRawFor None (Some raw) = ⊥
IsRawFor (Some outcome) None = ⊥

-- an answer by which a try of this instance, which was given what is told, ends as it did, where it is given the same
abbrev pub IsAnswerOf : Dag → Option Given → InstanceReport → JobName → Given → Option Raw → Type 0
IsAnswerOf dag told instance name given answer =
    IsAnsweredBy (λ asked. fitting dag name.task
    (entry_of_try instance.result name.attempt told)) name given answer
