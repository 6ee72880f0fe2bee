-- What `page` comes to.
use Rattle.std.proofs.Common.{◌≡◌, ◌≤◌, ◌<◌, ◌^◌, ℕ, true, List, Option, Result, Ok, Err, IfOk, IfErr, IsErrAnd, length, take, refl, sym, ap, ◌∙◌, subst, inl, inr, string_bytes, arith}
use Rattle.bf_check.specs.Checking.{dag_of}
use Rattle.bf_plan.specs.declared.plan.Dag.{Dag}
use Rattle.bf_report.specs.declared.report.Report.{Report}
use Rattle.bf_device.specs.Device.{sent}
use Rattle.bf_device.specs.declared.sending.Cause.{Cause}
use Rattle.bf_device.specs.declared.sending.Cause.TheVariants as cause
use Rattle.bf_device.specs.declared.sending.WriteFault.{WriteFault}
use Rattle.bf_command_line.specs.declared.forms.PageAsked.{PageAsked}
use Rattle.bf_command_fault.specs.Refusal.{Leaves, of_cause, of_write}
use Rattle.bf_dependents.specs.declared.fault.ClearFault.{ClearFault}
use Rattle.bf_command_fault.specs.declared.fault.CommandFault.{CommandFault}
use Rattle.bf_command_fault.specs.declared.fault.CommandFault.TheVariants.{CannotRead, CannotWrite, Check, Clear, Journal, OutOfMemory, Read, Report as BadReport}
use Rattle.bf_command_fault.specs.declared.status.Status.{Status}
use Rattle.bf_disk.specs.Files.{AreReadable, Files, IsHeldIfNamed, named_paths}
use Rattle.bf_input.specs.Inputs.{IsReportFault, graph_paths}
use Rattle.bf_input.specs.inner.Inputs.{IsReadOf}
use Rattle.bf_page.specs.Page.{EndsAt}
use Rattle.bf_views.specs.declared.planned.Planned.{Planned}
use Rattle.bf_views.specs.Matching.{intervals_in, is_of_graph}
use Rattle.bf_views.specs.PageFaults.{IsPageFault}
use Rattle.bf_views.specs.Pages.{IsPage, IsPageAnswer, journal_path, words_asked}
use Rattle.bf_views.specs.Planned.{HasGraph, IsPlanningFault}
use Rattle.bf_views.specs.inner.Planned.{IsPlanned}
use Rattle.bf_views.specs.inner.Refused.{IsRefusedBy}
use Rattle.bf_views.specs.Times.{AreTimesTold, IsJournalFault}
use Rattle.bf_views.specs.inner.Times.{IsNamedJournalFault}
use Rattle.bf_planning.specs.Wanting.{IsWanting}
use Rattle.bf_views.proofs.ReportedEnds.{refusal_fault}

-- ---- a command that passes a fault up

abbrev pub Fails : Result Status CommandFault → (Status → Type 0) → (CommandFault → Type 0) → (CommandFault → Type 0) → Type 0
Fails r IsAnswer IsFault IsLeft = record { answer : IfOk r IsAnswer; fault : IfErr r IsFault; left : IfErr r IsLeft }

pub fails : (r : Result Status CommandFault) (fault : CommandFault) (IsAnswer : Status → Type 0) (IsFault IsLeft : CommandFault → Type 0)
    → IsErrAnd r (λ f. f ≡ fault) → IsFault fault → IsLeft fault → Fails r IsAnswer IsFault IsLeft
fails (Ok status) fault IsAnswer IsFault IsLeft up is left = absurd up
fails (Err f) fault IsAnswer IsFault IsLeft up is left = record { answer = tt; fault = subst IsFault (sym up) is; left = subst IsLeft (sym up) left }

pub err_is : {A : Type 0} (r : Result A CommandFault) (fault : CommandFault) (Is : CommandFault → Type 0) → IsErrAnd r (λ f. f ≡ fault) → Is fault → IfErr r Is
err_is (Ok x) fault Is up is = tt
err_is (Err f) fault Is up is = subst Is (sym up) is

-- ---- the device

-- a counter of 64 bits says how many bytes went out of a text whose bytes it can count
module _ (Halted : Type 0) (IsDue : List ℕ → Type 0) (before after : Option (List ℕ)) (text : List ℕ) (due : IsDue text) (short : length text < 2 ^ 64) where
  left_by : (c : Cause) (counted : ℕ) → c ≡ cause.Io → EndsAt counted text before after → Halted → Leaves Halted IsDue before after (of_cause c counted)
  left_by cause.Io counted only (n, within, says, went) halted =
      let same : counted ≡ n = omega (arith, within, short, says) in
      (halted, text, due, subst (λ k. k ≤ length text) (sym same) within, went ∙ ap (λ k. sent before (take k text)) (sym same))
  left_by cause.OutOfMemory counted only part halted = cc

  pub write_leaves : (fault : WriteFault) → fault.cause ≡ cause.Io → EndsAt fault.sent text before after → Halted → Leaves Halted IsDue before after (of_write fault)
  write_leaves fault only part halted = left_by fault.cause fault.sent only part halted

pub is_writing : (fault : WriteFault) → fault.cause ≡ cause.Io → IsWanting (of_write fault)
is_writing fault only = by_cause fault.cause fault.sent only
  where
    by_cause : (c : Cause) (n : ℕ) → c ≡ cause.Io → IsWanting (of_cause c n)
    by_cause cause.Io n e = tt
    by_cause cause.OutOfMemory n e = cc

-- ---- with what was read

module _ (files : Files) (asked : PageAsked) where
  pub planning_page : (fault : CommandFault) → IsPlanningFault files asked.graph fault → IsPageFault files asked fault
  planning_page OutOfMemory is = tt
  planning_page (CannotRead path) is = inl (inl is)
  planning_page (Read fault) is = is
  planning_page (Check fault) is = is
  planning_page _ is = absurd is

  pub report_page : HasGraph files asked.graph → (fault : CommandFault) → IsReportFault (string_bytes asked.report) (files (string_bytes asked.report)) fault → IsPageFault files asked fault
  report_page has OutOfMemory is = tt
  report_page has (CannotRead path) is = inl (inr (has, is.0, is.1))
  report_page has (BadReport fault) is = (has, is)
  report_page has _ is = absurd is

  module _ (planned : Planned) (report : Report) (are : IsPlanned files asked.graph planned) (readable : AreReadable files (graph_paths asked.graph)) (is_read : IsReadOf (files (string_bytes asked.report)) report) where
    pub refusal_page : (fault : CommandFault) → IsRefusedBy (is_of_graph planned.timed.plan.dag report) fault → IsPageFault files asked fault
    refusal_page OutOfMemory is = tt
    refusal_page (Clear ClearFault.ReportMismatch) is = refusal_fault files asked.graph (string_bytes asked.report) planned report are readable is_read (Clear ClearFault.ReportMismatch) is
    refusal_page _ is = absurd is

    pub writing_page : AreReadable files (named_paths (journal_path asked)) → (fault : CommandFault) → IsWanting fault → IsPageFault files asked fault
    writing_page journal OutOfMemory is = tt
    writing_page journal (CannotWrite n) is = ((readable, is_read.readable), journal)
    writing_page journal _ is = absurd is

    module _ (matches : is_of_graph planned.timed.plan.dag report ≡ true) where
      pub journal_page : (fault : CommandFault) → IsNamedJournalFault files (journal_path asked) planned.timed.plan.dag (intervals_in report.runs) fault → IsPageFault files asked fault
      journal_page OutOfMemory is = tt
      journal_page (CannotRead path) is = inr (
        (readable, is_read.readable),
        λ graph zone held_graph held told.
            let plan = (are graph zone held_graph).1 in
            record { draft = plan.draft; graph_says = plan.graph_is; report = report; report_says = is_read.says held told; matches = ap (λ (d : Dag). is_of_graph d report) (sym plan.dag) ∙ matches },
        is,
      )
      journal_page (Journal fault) is = (
        (readable, is_read.readable),
        is.0,
        λ graph zone held_graph held told journal named.
            let plan = (are graph zone held_graph).1 in
            record {
              draft = plan.draft;
              graph_says = plan.graph_is;
              report = report;
              report_says = is_read.says held told;
              matches = ap (λ (d : Dag). is_of_graph d report) (sym plan.dag) ∙ matches;
              refused = subst (λ (d : Dag). IsJournalFault d (intervals_in report.runs) journal (Journal fault)) plan.dag (is.1 journal named);
            },
      )
      journal_page _ is = absurd is

      pub page_answer : AreReadable files (named_paths (journal_path asked)) → (times : List ℕ)
          → ((journal : Option (List ℕ)) → IsHeldIfNamed files (journal_path asked) journal → AreTimesTold planned.timed.plan.dag (intervals_in report.runs) journal times)
          → (text : List ℕ) → IsPage (words_asked asked) planned.graph.items planned.timed.plan.dag report times text → IsPageAnswer files asked text Status.Success
      page_answer journal_readable times tell text page = record {
        success = refl;
        readable = (readable, is_read.readable);
        journal_readable = journal_readable;
        text_is = λ graph zone held_graph held told journal named.
            let (same, plan) = are graph zone held_graph in
            record {
              draft = plan.draft;
              graph_says = plan.graph_is;
              report = report;
              report_says = is_read.says held told;
              matches = ap (λ (d : Dag). is_of_graph d report) (sym plan.dag) ∙ matches;
              times = times;
              times_told = subst (λ (d : Dag). AreTimesTold d (intervals_in report.runs) journal times) plan.dag (tell journal named);
              page = subst (λ (bytes : List ℕ). IsPage (words_asked asked) bytes (dag_of plan.draft) report times text) same (subst (λ (d : Dag). IsPage (words_asked asked) planned.graph.items d report times text) plan.dag page);
            };
      }
