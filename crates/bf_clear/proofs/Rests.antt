-- What isn't cleared rests on what isn't cleared alone.
use Rattle.std.proofs.Common.{◌≡◌, ℕ, suc, ℤ, pos, true, List, Option, None, Some, length, refl, sym, subst, ◌∙◌}
use Rattle.bf_interval.specs.declared.interval.Interval.{Interval}
use Rattle.bf_core.specs.Terms.{Dag, Entry, JobName, Ledger, IsSound, name_of, task_of, AreAlike}
use Rattle.bf_core.specs.Agreement.{HoldsItsTries}
use Rattle.bf_core.proofs.Confluence.{IsClosed, AreAlikeAt}
use Rattle.bf_report.specs.declared.report.Report.{Report}
use Rattle.bf_report.specs.Dated.{IsDated}
use Rattle.bf_kept.specs.Kept.{AreFit}
use Rattle.bf_dependents.specs.declared.place.Place.{Place}
use Rattle.bf_dependents.specs.Dependents.{IsBeside, IsDependent}
use Rattle.bf_clear.specs.Keeping.{AreKept}
use Rattle.bf_clear.proofs.Instances.{instance_same, AreAlikeOf}
use Rattle.bf_clear.proofs.Told.{told_is}

-- no instance of the task in the run is cleared
abbrev IsUntouched : Dag → List Place → ℕ → ℕ → Type 0
IsUntouched dag seeds k t = (i : ℤ) → ¬ (IsDependent dag seeds k t i)

untouched_closed : (dag : Dag) (seeds : List Place) → IsClosed dag (IsUntouched dag seeds)
untouched_closed dag seeds = record {
  up = λ k t u kept h i d. kept (pos 0) (IsDependent.Downstream h d);
  back = λ k t kept h i d. kept (pos 0) (IsDependent.NextRun h d);
}

-- where an instance isn't cleared, nothing that its task rests on is
past_untouched : (dag : Dag) (seeds : List Place) (k t : ℕ) (i : ℤ) → ¬ (IsDependent dag seeds k t i) → (j : ℕ) → k ≡ suc j → (task_of dag t).depends_on_past ≡ true → IsUntouched dag seeds j t
past_untouched dag seeds k t i beside j e h m d = beside (subst (λ (n : ℕ). IsDependent dag seeds n t i) (sym e) (IsDependent.NextRun h d))

module _ (dag : Dag) (intervals : List Interval) (seeds : List Place) (was kept : Ledger) (report : Report) (holds : HoldsItsTries dag (length intervals) was) (fit : AreFit dag was)
    (is : IsDated dag intervals was report) (are : AreKept dag seeds report kept) where
  -- what isn't cleared is kept as it was
  same_beside : (n : JobName) → IsBeside dag seeds n → kept n ≡ was n
  same_beside n beside = go (was n) refl (kept n) refl
    where
      go : (a : Option Entry) → was n ≡ a → (b : Option Entry) → kept n ≡ b → kept n ≡ was n
      go (Some e) h b f = (are n e).1 (told_is dag intervals was holds report is n ∙ h, beside, fit n e h) ∙ sym h
      go None h None f = f ∙ sym h
      go None h (Some e) f = let both : ◌≡◌ {A = Option Entry} None (Some e) = sym h ∙ (sym (told_is dag intervals was holds report is n) ∙ ((are n e).0 f).0) in cc

  rest_alike : (resumed : Ledger) → AreAlike kept resumed → (k t : ℕ) → IsUntouched dag seeds k t → AreAlikeAt dag was resumed k t
  unfolding name_of
  rest_alike resumed alike k t untouched i a d e first second given =
      let n : JobName = name_of dag k t i a in
      alike n d e (same_beside n (untouched n.index) ∙ first) second given

  instance_alike : (resumed : Ledger) → AreAlike kept resumed → (n : JobName) → IsBeside dag seeds n → AreAlikeOf was resumed n
  instance_alike resumed alike n beside m d e run task index first second given =
      alike m d e (same_beside m (λ x. beside (subst (λ (i : ℤ). IsDependent dag seeds n.run n.task i) index (subst (λ (t : ℕ). IsDependent dag seeds n.run t m.index) task (subst (λ (k : ℕ). IsDependent dag seeds k m.task m.index) run x)))) ∙ first) second given

pub rest_kept : (dag : Dag) → IsSound dag → (intervals : List Interval) (seeds : List Place) (was kept resumed : Ledger) (report : Report) → HoldsItsTries dag (length intervals) was → AreFit dag was →
    IsDated dag intervals was report → AreKept dag seeds report kept → HoldsItsTries dag (length intervals) resumed → AreAlike kept resumed → (n : JobName) → IsBeside dag seeds n → resumed n ≡ was n
rest_kept dag sound intervals seeds was kept resumed report holds fit is are also alike n beside =
    sym (instance_same dag sound (length intervals) was resumed (IsUntouched dag seeds) (untouched_closed dag seeds) (rest_alike dag intervals seeds was kept report holds fit is are resumed alike) holds also n
    (λ u h i d. beside (IsDependent.Downstream h d)) (past_untouched dag seeds n.run n.task n.index beside)
    (instance_alike dag intervals seeds was kept report holds fit is are resumed alike n beside))
