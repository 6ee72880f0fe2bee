use Rattle.std.proofs.Common.{◌≡◌, ℕ, List, map, Option, refl, sym, ap, ◌∙◌, subst, string_bytes}
use Rattle.bf_command_fault.specs.declared.fault.CommandFault.TheVariants.{BadMoment}
use Rattle.bf_command_fault.specs.declared.status.Status.{Status}
use Rattle.bf_command_fault.proofs.Leaving.{send_leaves}
use Rattle.bf_disk.specs.Files.{IsReadable}
use Rattle.bf_explain.specs.declared.paths.Paths.{Paths}
use Rattle.bf_input.specs.Moments.{IsNoMoment, Means}
use Rattle.bf_input.specs.Inputs.{IsReportFault}
use Rattle.bf_input.specs.inner.Inputs.{IsReadOf}
use Rattle.bf_views.specs.inner.ExplainFaults.{IsFaultOfAsked}
use Rattle.bf_moment.specs.declared.moment.Moment.{Moment}
use Rattle.bf_views.specs.Explanations.{IsExplanation}
use Rattle.bf_views.specs.inner.Clocks.{AreClocksBy}
use Rattle.bf_views.specs.Planned.{IsPlanningFault}
use Rattle.bf_views.proofs.ExplainEnds.{asked_explains, explain_answer, memory_explains, planning_explains, report_explains, unmeant, unmeant_leaves, writing_explains}
use Rattle.bf_views.proofs.PageEnds.{err_is, fails, is_writing}
use Rattle.bf_views.proofs.ReportedEnds.{has_graph, unwritten_leaves}
use Rattle.bf_views.proofs.explain.answer_explain.Goals as goal

pub returns-in_err-start : goal.returns-in_err-start
returns-in_err-start g c =
    let bad = subst (λ (text : List ℕ). (c.in_err-start.field-0.0 ≡ BadMoment) × IsNoMoment text) c.as_str.ensures.value c.in_err-start.ensures.bad in
    fails _ _ _ _ _ c.from_residual.ensures.1 (unmeant (g.S.Source.file c.args.files.now) c.args.asked _ bad) (unmeant_leaves _ _ _ c.args.asked _ bad)

pub returns-in_err-paths-clause-fault : goal.returns-in_err-paths-clause-fault
returns-in_err-paths-clause-fault g c =
    let means = subst (λ (text : List ℕ). Means text c.in_ok-start.start) c.as_str.ensures.value c.in_ok-start.ensures.means in
    err_is _ _ _ c.from_residual-in_err-paths.ensures.1 (memory_explains (g.S.Source.file c.args.files.now) c.args.asked c.in_ok-start.start means)

pub returns-in_err-planned : goal.returns-in_err-planned
returns-in_err-planned g c =
    let files = g.S.Source.file c.args.files.now in
    let means = subst (λ (text : List ℕ). Means text c.in_ok-start.start) c.as_str.ensures.value c.in_ok-start.ensures.means in
    fails _ _ _ _ _ c.from_residual-in_err-planned.ensures.1
    (planning_explains files c.args.asked c.in_ok-start.start means _ c.in_err-planned.ensures.fault)
    (unwritten_leaves _ _ _ (IsPlanningFault files c.args.asked.graph) (λ n is. is) _ c.in_err-planned.ensures.fault)

pub returns-in_err-report : goal.returns-in_err-report
returns-in_err-report g c =
    let files = g.S.Source.file c.args.files.now in
    let means = subst (λ (text : List ℕ). Means text c.in_ok-start.start) c.as_str.ensures.value c.in_ok-start.ensures.means in
    let path = string_bytes c.args.asked.report in
    let is = subst (λ (file : Option (Option (List ℕ))). IsReportFault path file c.in_err-report.field-0.0) (c.in_ok-planned.ensures.stays path) c.in_err-report.ensures.fault in
    let has = has_graph files c.args.asked.graph c.in_ok-planned.planned c.in_ok-planned.ensures.plan c.in_ok-planned.ensures.readable in
    fails _ _ _ _ _ c.from_residual-in_err-report.ensures.1
    (report_explains files c.args.asked c.in_ok-start.start means has _ is)
    (unwritten_leaves _ _ _ (IsReportFault path (files path)) (λ n is. is) _ is)

pub returns-in_err-clocks-clause-fault : goal.returns-in_err-clocks-clause-fault
returns-in_err-clocks-clause-fault g c =
    let means = subst (λ (text : List ℕ). Means text c.in_ok-start.start) c.as_str.ensures.value c.in_ok-start.ensures.means in
    err_is _ _ _ c.from_residual-in_err-clocks.ensures.1 (memory_explains (g.S.Source.file c.args.files.now) c.args.asked c.in_ok-start.start means)

pub returns-in_err-clocks-clause-left : goal.returns-in_err-clocks-clause-left
returns-in_err-clocks-clause-left g c = err_is _ _ _ c.from_residual-in_err-clocks.ensures.1 refl

pub returns-in_err-text : goal.returns-in_err-text
returns-in_err-text g c =
    let files = g.S.Source.file c.args.files.now in
    let means = subst (λ (text : List ℕ). Means text c.in_ok-start.start) c.as_str.ensures.value c.in_ok-start.ensures.means in
    let path = string_bytes c.args.asked.report in
    let report = c.in_ok-report.report in
    let stays = c.in_ok-planned.ensures.stays path in
    let read : IsReadOf (files path) report = record { readable = subst IsReadable stays c.in_ok-report.ensures.readable; says = λ held told. c.in_ok-report.ensures.says held (stays ∙ told) } in
    fails _ _ _ _ _ c.from_residual-in_err-text.ensures.1
    (asked_explains files c.args.asked c.in_ok-start.start means c.in_ok-planned.planned report c.in_ok-planned.ensures.plan c.in_ok-planned.ensures.readable read _ c.in_err-text.ensures.fault)
    (unwritten_leaves _ _ _ (IsFaultOfAsked c.in_ok-planned.planned.timed.plan.dag report c.in_ok-start.start.nanosecond c.args.asked.task) (λ n is. is) _ c.in_err-text.ensures.fault)

pub returns-in_err-send : goal.returns-in_err-send
returns-in_err-send g c =
    let files = g.S.Source.file c.args.files.now in
    let means = subst (λ (text : List ℕ). Means text c.in_ok-start.start) c.as_str.ensures.value c.in_ok-start.ensures.means in
    let path = string_bytes c.args.asked.report in
    let planned = c.in_ok-planned.planned in
    let report = c.in_ok-report.report in
    let stays = c.in_ok-planned.ensures.stays path in
    let read : IsReadOf (files path) report = record { readable = subst IsReadable stays c.in_ok-report.ensures.readable; says = λ held told. c.in_ok-report.ensures.says held (stays ∙ told) } in
    let text = c.as_bytes.result.now in
    let clocks = map (λ clock. clock.at.nanosecond) c.deref.result.now in
    let by : AreClocksBy planned.timed report clocks = subst (λ (shown : List Moment). AreClocksBy planned.timed report (map (λ clock. clock.at.nanosecond) shown)) (sym c.deref.ensures.value) c.in_ok-clocks.ensures in
    let explains : IsExplanation _ planned.timed.plan.dag report clocks c.in_ok-start.start.nanosecond c.args.asked.task text =
    subst (λ (p : Paths). IsExplanation p planned.timed.plan.dag report clocks c.in_ok-start.start.nanosecond c.args.asked.task text) c.in_ok-paths.ensures
    (subst (λ (t : List ℕ). IsExplanation c.in_ok-paths.paths planned.timed.plan.dag report clocks c.in_ok-start.start.nanosecond c.args.asked.task t) (sym c.as_bytes.ensures.value) c.in_ok-text.ensures.text) in
    fails _ _ _ _ _ c.from_residual-in_err-send.ensures.1
    (writing_explains files c.args.asked c.in_ok-start.start means planned report c.in_ok-planned.ensures.plan c.in_ok-planned.ensures.readable read _ (is_writing _ c.in_err-send.ensures.only_io))
    (send_leaves _ _ _ _ text (Status.Success, explain_answer files c.args.asked c.in_ok-start.start means planned report c.in_ok-planned.ensures.plan c.in_ok-planned.ensures.readable read c.in_ok-planned.ensures.zone clocks by text explains)
    _ c.in_err-send.ensures.part c.in_err-send.ensures.only_io c.in_err-send.ensures.halted)

pub returns-clause-answer : goal.returns-clause-answer
returns-clause-answer g c =
    let files = g.S.Source.file c.args.files.now in
    let means = subst (λ (text : List ℕ). Means text c.in_ok-start.start) c.as_str.ensures.value c.in_ok-start.ensures.means in
    let path = string_bytes c.args.asked.report in
    let planned = c.in_ok-planned.planned in
    let report = c.in_ok-report.report in
    let stays = c.in_ok-planned.ensures.stays path in
    let read : IsReadOf (files path) report = record { readable = subst IsReadable stays c.in_ok-report.ensures.readable; says = λ held told. c.in_ok-report.ensures.says held (stays ∙ told) } in
    let text = c.as_bytes.result.now in
    let clocks = map (λ clock. clock.at.nanosecond) c.deref.result.now in
    let by : AreClocksBy planned.timed report clocks = subst (λ (shown : List Moment). AreClocksBy planned.timed report (map (λ clock. clock.at.nanosecond) shown)) (sym c.deref.ensures.value) c.in_ok-clocks.ensures in
    let explains : IsExplanation _ planned.timed.plan.dag report clocks c.in_ok-start.start.nanosecond c.args.asked.task text =
    subst (λ (p : Paths). IsExplanation p planned.timed.plan.dag report clocks c.in_ok-start.start.nanosecond c.args.asked.task text) c.in_ok-paths.ensures
    (subst (λ (t : List ℕ). IsExplanation c.in_ok-paths.paths planned.timed.plan.dag report clocks c.in_ok-start.start.nanosecond c.args.asked.task t) (sym c.as_bytes.ensures.value) c.in_ok-text.ensures.text) in
    (text, explain_answer files c.args.asked c.in_ok-start.start means planned report c.in_ok-planned.ensures.plan c.in_ok-planned.ensures.readable read c.in_ok-planned.ensures.zone clocks by text explains, c.in_ok-send.ensures.ok)
