-- What closed lanes show: no stranger's answer was gathered.
use Rattle.std.proofs.Common.{◌≡◌, ◌≤◌, ◌++◌, ◌∷◌, ℕ, List, [], sym, ap, ◌∙◌, subst, arith, sum_by}
use Rattle.std.proofs.lemmas.List.{append-nil}
use Rattle.std.proofs.lemmas.List.Sums.{sum_by-append, sum_by-cons}
use Rattle.bf_value.specs.declared.name.JobName.{JobName}
use Rattle.bf_xcom.specs.declared.values.Given.{Given}
use Rattle.bf_try.specs.declared.answers.Raw.{Raw}
use Rattle.bf_try.specs.Asked.{Asked}
use Rattle.bf_try.proofs.GradeLemmas.{grade_fits}
use Rattle.bf_core.specs.declared.fault.BackfillFault.{BackfillFault}
use Rattle.bf_core.specs.Running.{running_tries}
use Rattle.bf_lane.specs.declared.messages.Answer.TheVariants.{Done}
use Rattle.bf_lane.specs.declared.messages.Job.TheVariants.{Stop}
use Rattle.bf_lane.specs.Closing.{Closes, ClosesAll}
use Rattle.bf_lane.specs.Lanes.{FourLists, answered, asked, asked_by}
use Rattle.bf_lane.specs.Open.{Scheduled}
use Rattle.bf_lane.proofs.Serving.{answered_append, asked_append}
use Rattle.bf_exec.specs.Accounts.{gathered_sum, submitted_sum}
use Rattle.bf_exec.specs.Faults.{MayFail, MayHalt}
use Rattle.bf_exec.specs.inner.Faults.{IsFaultOf}
use Rattle.bf_exec.specs.Turns.{HasStranger}
use Rattle.bf_exec.specs.declared.turn_fault.TurnFault.{TurnFault}
use Rattle.bf_exec.proofs.Members.{Runs, runs_there}
use Rattle.bf_exec.proofs.Sums.{gathered_more, gathered_submitted}

module _ (may_answer : JobName → Given → Raw → Type 0) (may_give_up : JobName → Given → Type 0) where
  -- the tries whose answers were gathered are the first of those that were submitted
  closed_lane : (l : Scheduled) (c : FourLists) → Closes may_answer may_give_up l c → (h : Asked → ℕ) → sum_by h (answered l.gathered) ≤ sum_by h (asked l.submitted)
  closed_lane l c is h =
      let all : answered l.gathered ++ answered is.gathered.0 ≡ asked l.submitted =
      sym (answered_append l.gathered is.gathered.0) ∙ (ap answered (sym is.gathered.1) ∙ (is.closed.gathered_all ∙ (ap asked is.submitted ∙ (asked_append l.submitted (Stop ∷ []) ∙ append-nil (asked l.submitted))))) in
      let parts : _ = sum_by-append h (answered l.gathered) (answered is.gathered.0) in
      let whole : sum_by h (answered l.gathered ++ answered is.gathered.0) ≡ sum_by h (asked l.submitted) = ap (sum_by h) all in
      omega (arith, parts, whole)

  closed_lanes : (ls : List Scheduled) (cs : List FourLists) → ClosesAll may_answer may_give_up ls cs → (h : Asked → ℕ) → gathered_sum h ls ≤ submitted_sum h ls
  closed_lanes [] [] is h = omega arith
  closed_lanes [] (c ∷ cs) is h = absurd is
  closed_lanes (l ∷ ls) [] is h = absurd is
  closed_lanes (l ∷ ls) (c ∷ cs) is h =
      let one : _ = closed_lane l c is.0 h in
      let rest : _ = closed_lanes ls cs is.1 h in
      let a : _ = sum_by-cons (λ (lane : Scheduled). sum_by h (asked lane.submitted)) l ls in
      let b : _ = sum_by-cons (λ (lane : Scheduled). sum_by h (answered lane.gathered)) l ls in
      omega (arith, one, rest, a, b)

  pub no_stranger : (lanes next : List Scheduled) (cs : List FourLists) → ClosesAll may_answer may_give_up next cs → HasStranger lanes next → ⊥
  no_stranger lanes next cs closed is =
      is.refused (((running.present, grade_fits is.backfill.dag is.answer.name.task is.answer.raw), tt), λ _. running.given)
    where
      weighs : (h : Asked → ℕ) → h (asked_by (Done is.answer)) ≤ running_tries h is.backfill.dag is.backfill.state
      weighs h =
          let least : _ = closed_lanes next cs closed h in
          let more : _ = gathered_more lanes next is.at (Done is.answer) is.got h in
          let same : _ = gathered_submitted lanes next is.at (Done is.answer) is.got h in
          let equal : _ = is.in_step.accounted.equal h in
          omega (arith, least, more, same, equal)

      running : Runs is.backfill (asked_by (Done is.answer))
      running = runs_there is.backfill is.in_step.replayed (asked_by (Done is.answer)) weighs

pub may_fail : (may_give_up : JobName → Given → Type 0) (halt : TurnFault) (fault : BackfillFault) → IsFaultOf halt fault → MayHalt may_give_up halt → MayFail may_give_up fault
may_fail may_give_up TurnFault.OutOfMemory fault is may = subst (MayFail may_give_up) (sym is) tt
may_fail may_give_up (TurnFault.Runner n) fault is may = subst (MayFail may_give_up) (sym is) may
may_fail may_give_up TurnFault.Stranger fault is may = absurd is
