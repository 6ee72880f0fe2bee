-- Which tries are kept, and what is answered from them.
use Rattle.std.specs.Prelude.{◌≡◌, ◌⊎◌, true, Option, Some, None}
use Rattle.bf_value.specs.declared.name.JobName.{JobName}
use Rattle.bf_plan.specs.declared.plan.Dag.{Dag}
use Rattle.bf_xcom.specs.declared.values.Given.{Given}
use Rattle.bf_try.specs.declared.answers.Raw.{Raw}
use Rattle.bf_try.specs.declared.ledger.Entry.{Entry}
use Rattle.bf_try.specs.Grades.{fits_in, grade_of, GradesTo}
use Rattle.bf_try.specs.Tries.{Ledger}

-- no try is kept
abbrev pub nothing : Ledger
nothing n = None

-- an entry with this name and this Given is kept
abbrev pub IsKept : Ledger → JobName → Given → Entry → Type 0
IsKept kept n given e = (kept n ≡ Some e) × (e.given ≡ given)

-- no entry with this name and this Given is kept
abbrev pub IsNew : Ledger → JobName → Given → Type 0
IsNew kept n given = (e : Entry) → IsKept kept n given e → ⊥

-- the answer of a kept try: the outcome that is kept is its grade
pub record IsKeptAnswer (kept : Ledger) (n : JobName) (given : Given) (raw : Raw) : Type 0 where
  pub held : Entry
  pub is_kept : IsKept kept n given held
  pub grades : GradesTo raw held.outcome

-- a kept try has an answer, another none
abbrev pub IsAnsweredBy : Ledger → JobName → Given → Option Raw → Type 0
IsAnsweredBy kept n given None = IsNew kept n given
IsAnsweredBy kept n given (Some raw) = IsKeptAnswer kept n given raw

-- a kept try is answered so that it ends as it did, another as the runner may answer it
abbrev pub IsAnswer : Ledger → (JobName → Given → Raw → Type 0) → JobName → Given → Raw → Type 0
IsAnswer kept may_answer n given raw =
    IsKeptAnswer kept n given raw ⊎ (IsNew kept n given × may_answer n given raw)

-- only a try that isn't kept may be given up
abbrev pub MayGiveUpAnew : Ledger → (JobName → Given → Type 0) → JobName → Given → Type 0
MayGiveUpAnew kept may_give_up n given = IsNew kept n given × may_give_up n given

-- each kept outcome fits the plan
abbrev pub AreFit : Dag → Ledger → Type 0
AreFit dag kept = (n : JobName) (e : Entry) → kept n ≡ Some e → fits_in dag n.task e.outcome ≡ true

-- the try has the grade of an answer that may be given to it
abbrev pub HasGrade : (JobName → Given → Raw → Type 0) → Dag → JobName → Entry → Type 0
HasGrade may_answer dag n e =
    (raw : Raw) × may_answer n e.given raw × (e.outcome ≡ grade_of dag n.task raw)

-- each try that isn't kept has the grade of an answer that the runner may give
abbrev pub AreGradedAnew : Ledger → (JobName → Given → Raw → Type 0) → Dag → Ledger → Type 0
AreGradedAnew kept may_answer dag ledger =
    (n : JobName) (e : Entry) → ledger n ≡ Some e → IsNew kept n e.given
    → HasGrade may_answer dag n e
