-- What is printed after crashes.
use Rattle.std.proofs.Common.{◌≡◌, ◌∙◌, ℕ, Bool, List, None, Some, sym, inl, inr}
use Rattle.bf_value.specs.declared.name.JobName.{JobName}
use Rattle.bf_plan.specs.declared.plan.Dag.{Dag}
use Rattle.bf_plan.specs.Sound.{IsNamed}
use Rattle.bf_interval.specs.declared.interval.Interval.{Interval}
use Rattle.bf_interval.specs.Runs.{AreOfRuns}
use Rattle.bf_xcom.specs.declared.values.Given.{Given}
use Rattle.bf_try.specs.declared.answers.Raw.{Raw}
use Rattle.bf_try.specs.declared.ledger.Entry.{Entry}
use Rattle.bf_try.specs.Tries.{Ledger}
use Rattle.bf_kept.specs.Kept.{HasGrade}
use Rattle.bf_core.specs.Answered.{AreGraded}
use Rattle.bf_journal.specs.Heads.{head_text}
use Rattle.bf_journal.specs.Left.{IsFoundIn, IsLeftByCrashes}
use Rattle.bf_journal.specs.Since.{left_of}
use Rattle.bf_journal.proofs.Answering.{part_of, since_all}
use Rattle.bf_journal.proofs.Crashes.{keeps_graded}
use Rattle.bf_journal.proofs.Left.{behind_head}
use Rattle.bf_journal.proofs.Naming.{are_told}
use Rattle.bf_commands.specs.Journaled.{Heading, IsJournalReport}
use Rattle.bf_commands.specs.Reported.{IsReportBy}
use Rattle.bf_commands.proofs.FromKept.{from_graded}

module _ (may_answer : JobName → Given → Raw → Type 0) (dag : Dag) (intervals : List Interval) (named : IsNamed dag) (are : AreOfRuns intervals) (cleared : Heading) where
  -- so each try of the journal has the grade of an answer that may come
  found_graded : (held : List ℕ) (whole : ℕ) (tries : Ledger) → IsFoundIn dag intervals (head_text dag intervals cleared) held whole tries → IsLeftByCrashes may_answer dag intervals (head_text dag intervals cleared) held
      → (n : JobName) (e : Entry) → tries n ≡ Some e → HasGrade may_answer dag n e
  found_graded held whole tries (inl cut) left n e there = let bad : None ≡ Some e = sym (cut.nothing_kept n) ∙ there in cc
  found_graded held whole tries (inr on) left n e there =
      keeps_graded may_answer dag intervals (are_told dag intervals named are) on.records (behind_head may_answer dag intervals (head_text dag intervals cleared) held on.records on.are left) on.tries on.told n e (sym (on.last n) ∙ there)

  -- and the report is that of a backfill from nothing
  pub no_report_changes : (before : Ledger) → AreGraded may_answer dag before → (retry : Bool) (held : List ℕ) → IsLeftByCrashes may_answer dag intervals (head_text dag intervals cleared) held → (text : List ℕ) (success : Bool)
      → IsJournalReport before retry held cleared may_answer dag intervals text success → IsReportBy may_answer dag intervals text success
  no_report_changes before graded retry held left text success is =
      from_graded
      (since_all (HasGrade may_answer dag) (left_of retry dag is.tries) before (λ n e there. found_graded held is.has_tries.whole is.tries is.has_tries.found left n e (part_of retry dag is.tries n e there)) graded)
      text success is.reported
