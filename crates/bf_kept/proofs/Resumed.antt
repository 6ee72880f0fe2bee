-- Tries that are answered from what is kept.
use Rattle.std.proofs.Common.{◌≡◌, Some, inl, inr, sym, ap, ◌∙◌, subst}
use Rattle.bf_value.specs.declared.name.JobName.{JobName}
use Rattle.bf_plan.specs.declared.plan.Dag.{Dag}
use Rattle.bf_xcom.specs.declared.values.Given.{Given}
use Rattle.bf_try.specs.declared.answers.Raw.{Raw}
use Rattle.bf_try.specs.declared.ledger.Entry.{Entry}
use Rattle.bf_try.specs.Grades.{grade_of}
use Rattle.bf_try.specs.Tries.{AreAlike, Ledger, outcome_of}
use Rattle.bf_kept.specs.Kept.{IsAnswer, IsKeptAnswer, AreFit, AreGradedAnew, HasGrade}

module _ (dag : Dag) (kept ledger : Ledger) (may_answer : JobName → Given → Raw → Type 0) (fit : AreFit dag kept) (graded : (n : JobName) (e : Entry) → ledger n ≡ Some e → HasGrade (IsAnswer kept may_answer) dag n e) where
  -- a kept answer has the grade that was kept
  again : (n : JobName) (given : Given) (raw : Raw) (is : IsKeptAnswer kept n given raw) → grade_of dag n.task raw ≡ is.held.outcome
  again n given raw is = is.grades dag n.task (fit n is.held is.is_kept.0)

  -- so tries that are graded so are alike with the kept ones
  pub kept_alike : AreAlike kept ledger
  kept_alike n d e first second given = go (graded n e second)
    where
      go : HasGrade (IsAnswer kept may_answer) dag n e → d.outcome ≡ e.outcome
      go (raw, inl is, same) = ap outcome_of (sym first ∙ is.is_kept.0) ∙ sym (same ∙ again n e.given raw is)
      go (raw, inr may, same) = absurd (may.0 d (first, given))

  pub graded_anew : AreGradedAnew kept may_answer dag ledger
  graded_anew n e there new = go (graded n e there)
    where
      go : HasGrade (IsAnswer kept may_answer) dag n e → HasGrade may_answer dag n e
      go (raw, inl is, same) = absurd (new is.held is.is_kept)
      go (raw, inr may, same) = (raw, may.1, same)

  -- where the runner could have given what is kept, it could have given all
  pub graded_all : ((n : JobName) (e : Entry) → kept n ≡ Some e → HasGrade may_answer dag n e) → (n : JobName) (e : Entry) → ledger n ≡ Some e → HasGrade may_answer dag n e
  graded_all before n e there = go (graded n e there)
    where
      go : HasGrade (IsAnswer kept may_answer) dag n e → HasGrade may_answer dag n e
      go (raw, inl is, same) =
          let was : _ = before n is.held is.is_kept.0 in
          (was.0, subst (λ (g : Given). may_answer n g was.0) is.is_kept.1 was.1, same ∙ (again n e.given raw is ∙ was.2))
      go (raw, inr may, same) = (raw, may.1, same)
