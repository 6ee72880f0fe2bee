use Rattle.std.proofs.Common.{◌≡◌, List, Bool, length, refl, ap, ◌∙◌, subst}
use Rattle.std.specs.List.{list_all}
use Rattle.bf_plan.specs.Sound.{IsNamed, IsSound}
use Rattle.bf_interval.specs.declared.interval.Interval.{Interval}
use Rattle.bf_core.specs.Agreement.{IsOutcome}
use Rattle.bf_core.specs.Cores.{IsJournal}
use Rattle.bf_core.specs.Endings.{Ending, IsEnd}
use Rattle.bf_core.specs.Events.{entry_in}
use Rattle.bf_report.specs.Dated.{IsDated}
use Rattle.bf_report.specs.Report.{report_text}
use Rattle.bf_report.specs.Values.{HasSoundValues}
use Rattle.bf_report.specs.declared.report.Report.{Report}
use Rattle.bf_interval.specs.Runs.{AreOfRuns}
use Rattle.bf_report_reader.proofs.Written.{written_reports_are_shown}
use Rattle.bf_command_fault.proofs.Leaving.{write_leaves}
use Rattle.bf_commands.specs.Reported.{IsReportOf, is_success_in}
use Rattle.bf_planning.proofs.Faults.{write_wanting}
use Rattle.bf_planning.proofs.Results.{handed_on}
use Rattle.bf_commands.proofs.reported.write_ended.Goals as goal

-- the report of a backfill that has ended keeps the rules by which reports are read
kept : {intervals : List Interval} {ending : Ending} {report : Report} → IsSound ending.dag → IsNamed ending.dag → AreOfRuns intervals → length intervals ≡ ending.runs → IsEnd ending
    → IsDated ending.dag intervals (entry_in ending.state.ledger) report → HasSoundValues report → (success : Bool) → success ≡ list_all (λ run. is_success_in run.state) report.runs
    → IsReportOf ending.dag intervals (entry_in ending.state.ledger) (report_text report) success
kept {intervals = intervals} {ending = ending} {report = report} sound named are many end dated values success succeeded =
    let by : IsJournal ending.dag ending.limits (length intervals) ending.journal ending.state = rw many end.journal in
    let is : IsOutcome ending.dag (length intervals) ending.state = rw many end.outcome in
    record { report = report; dated = dated; kept = written_reports_are_shown _ sound named _ are _ _ _ by is report dated values; text_is = refl; state = succeeded }

pub returns-in_err-write_report-clause-wanting : goal.returns-in_err-write_report-clause-wanting
returns-in_err-write_report-clause-wanting g c = handed_on _ _ c.from_residual-in_err-write_report.ensures.1 (write_wanting _)

pub returns-in_err-write_report-clause-left : goal.returns-in_err-write_report-clause-left
returns-in_err-write_report-clause-left g c =
    handed_on _ _ c.from_residual-in_err-write_report.ensures.1
    (write_leaves _ _ _ _ (report_text c.in_ok-report.report)
    (_, kept (subst IsSound c.plan.ensures.dag c.dag-named.ensures.sound) (subst IsNamed c.plan.ensures.dag c.dag-named.ensures.named) c.intervals-of_runs.ensures.of_runs c.requires c.state-ended.ensures.end c.in_ok-report.ensures.dated c.in_ok-report.ensures.sound _ refl)
    _ c.in_err-write_report.ensures.part c.in_err-write_report.ensures.io c.in_err-write_report.ensures.memory)

pub returns-clause-ok : goal.returns-clause-ok
returns-clause-ok g c =
    let succeeded = c.all_succeeded-success.ensures ∙ ap (list_all (λ run. is_success_in run.state)) c.as_slice.ensures in
    let is = kept (subst IsSound c.plan.ensures.dag c.dag-named.ensures.sound) (subst IsNamed c.plan.ensures.dag c.dag-named.ensures.named) c.intervals-of_runs.ensures.of_runs c.requires c.state-ended.ensures.end c.in_ok-report.ensures.dated c.in_ok-report.ensures.sound _ succeeded in
    (report_text c.in_ok-report.report, is, c.in_ok-write_report.ensures.ok)
