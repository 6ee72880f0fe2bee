-- Answers from what is kept.
use Rattle.std.proofs.Common.{◌≡◌, ℕ, nat_lt, ◌&&◌, not, Bool, true, false, if◌then◌else◌, length, Option, None, Some, option_map, refl, sym, ap, ◌∙◌}
use Rattle.bf_try.specs.declared.answers.Raw.{Raw}
use Rattle.bf_core.specs.Terms.{Dag, Entry, Given, JobName, Ledger, Outcome, fits_in}
use Rattle.bf_report.specs.declared.report.InstanceReport.{InstanceReport}
use Rattle.bf_kept.specs.Kept.{IsAnsweredBy}
use Rattle.bf_dependents.specs.Dependents.{has_instance_in}
use Rattle.bf_clear.specs.Entries.{entry_by, entry_of_try, found_at, given_by, outcome_of_try_in, told, given_by_values_in}
use Rattle.bf_clear.specs.Keeping.{Clearance, fitting, kept_in, kept_of}
use Rattle.bf_clear.specs.inner.Keeping.{fit_outcome, IsAnswerOf, IsRawFor}

-- what is kept is looked up in one way or the other
answers_same : (kept other : Ledger) (n : JobName) (given : Given) (o : Option Raw) → kept n ≡ other n → IsAnsweredBy other n given o → IsAnsweredBy kept n given o
answers_same kept other n given None e is = λ d held. is d (sym e ∙ held.0, held.1)
answers_same kept other n given (Some raw) e is = record { held = is.held; is_kept = (e ∙ is.is_kept.0, is.is_kept.1); grades = is.grades }

none_kept : (kept : Ledger) (n : JobName) (given : Given) → kept n ≡ None → IsAnsweredBy kept n given None
none_kept kept n given e = λ d held. let both : ◌≡◌ {A = Option Entry} None (Some d) = sym e ∙ held.0 in cc

outcome_answers : (dag : Dag) (x : InstanceReport) (n : JobName) (given : Given) (o : Option Raw) →
    IsRawFor (fit_outcome dag n.task (outcome_of_try_in x.result n.attempt)) o → IsAnswerOf dag (Some given) x n given o
outcome_answers dag x n given o is = go (outcome_of_try_in x.result n.attempt) refl o is
  where
    entry : Outcome → Entry
    entry w = record { given = given; outcome = w }

    fit : (w : Outcome) (f : Bool) → fits_in dag n.task w ≡ f → (r : Option Raw) → IsRawFor (if f then Some w else None) r →
        IsAnsweredBy (λ m. if f then Some (entry w) else None) n given r
    fit w true e None h = absurd h
    fit w true e (Some raw) h = record { held = entry w; is_kept = (refl, refl); grades = h }
    fit w false e None h = λ d held. let both : ◌≡◌ {A = Option Entry} None (Some d) = held.0 in cc
    fit w false e (Some raw) h = absurd h

    go : (w : Option Outcome) → outcome_of_try_in x.result n.attempt ≡ w → (r : Option Raw) → IsRawFor (fit_outcome dag n.task w) r →
        IsAnsweredBy (λ m. fitting dag n.task (option_map entry w)) n given r
    go None e None h = λ d held. let both : ◌≡◌ {A = Option Entry} None (Some d) = held.0 in cc
    go None e (Some raw) h = absurd h
    go (Some w) e r h = fit w (fits_in dag n.task w) refl r h

-- the outcome of the try, where it fits
pub raw_answers : (dag : Dag) (told : Option Given) (x : InstanceReport) (n : JobName) (given : Given) (o : Option Raw) → told ≡ Some given →
    IsRawFor (fit_outcome dag n.task (outcome_of_try_in x.result n.attempt)) o → IsAnswerOf dag told x n given o
raw_answers dag told x n given o same is =
    answers_same (λ m. fitting dag n.task (entry_of_try x.result n.attempt told)) (λ m. fitting dag n.task (entry_of_try x.result n.attempt (Some given))) n given o
    (ap (λ g. fitting dag n.task (entry_of_try x.result n.attempt g)) same) (outcome_answers dag x n given o is)

-- ---- by the report

pub answers_here : (c : Clearance) (n : JobName) (given : Given) (x : InstanceReport) (o : Option Raw) →
    nat_lt n.task (length c.dag.tasks) ≡ true → has_instance_in c.dag c.cleared n.run n.task n.index ≡ false → found_at c.report n.run n.task n.index ≡ Some x →
    IsAnswerOf c.dag (given_by c.report.version (given_by_values_in c.dag c.report n.run n.task n.index) x) x n given o → IsAnsweredBy (kept_in c) n given o
unfolding told
answers_here c n given x o there beside found is =
    answers_same (kept_in c) (λ m. fitting c.dag n.task (entry_of_try x.result n.attempt (given_by c.report.version (given_by_values_in c.dag c.report n.run n.task n.index) x))) n given o
    (ap (λ b. kept_of (b && not (has_instance_in c.dag c.cleared n.run n.task n.index)) c.dag n.task (told c.dag c.report n)) there
    ∙ (ap (λ b. kept_of (not b) c.dag n.task (told c.dag c.report n)) beside
    ∙ ap (λ m. fitting c.dag n.task (entry_by c.report.version (given_by_values_in c.dag c.report n.run n.task n.index) m n.attempt)) found)) is

fitting_none : (b : Bool) (dag : Dag) (t : ℕ) → kept_of b dag t None ≡ None
fitting_none true dag t = refl
fitting_none false dag t = refl

-- no such instance stands in the report
pub answers_none : (c : Clearance) (n : JobName) (given : Given) → found_at c.report n.run n.task n.index ≡ None → IsAnsweredBy (kept_in c) n given None
unfolding told
answers_none c n given none =
    none_kept (kept_in c) n given
    (ap (λ m. kept_of (nat_lt n.task (length c.dag.tasks) && not (has_instance_in c.dag c.cleared n.run n.task n.index)) c.dag n.task (entry_by c.report.version (given_by_values_in c.dag c.report n.run n.task n.index) m n.attempt)) none
    ∙ fitting_none (nat_lt n.task (length c.dag.tasks) && not (has_instance_in c.dag c.cleared n.run n.task n.index)) c.dag n.task)
