-- What closing all lanes shows.
use Rattle.std.specs.Prelude.{◌≡◌, ◌++◌, ◌∷◌, List, []}
use Rattle.bf_value.specs.declared.name.JobName.{JobName}
use Rattle.bf_xcom.specs.declared.values.Given.{Given}
use Rattle.bf_try.specs.declared.answers.Raw.{Raw}
use Rattle.bf_lane.specs.declared.messages.Job.TheVariants.{Stop}
use Rattle.bf_lane.specs.Lanes.{FourLists, IsClosed}
use Rattle.bf_lane.specs.Open.{Scheduled, StartsWith}

-- what a lane that scheduled this shows once it is closed
pub record Closes (may_answer : JobName → Given → Raw → Type 0) (may_give_up : JobName → Given
    → Type 0) (l : Scheduled) (c : FourLists) : Type 0 where
  pub submitted : c.submitted ≡ l.submitted ++ Stop ∷ []
  pub gathered : StartsWith c.gathered l.gathered
  pub closed : IsClosed may_answer may_give_up c

abbrev pub ClosesAll : (JobName → Given → Raw → Type 0) → (JobName → Given → Type 0)
    → List Scheduled → List FourLists → Type 0
ClosesAll may_answer may_give_up [] [] = Unit {0}
ClosesAll may_answer may_give_up [] (c ∷ cs) = ⊥
ClosesAll may_answer may_give_up (l ∷ ls) [] = ⊥
ClosesAll may_answer may_give_up (l ∷ ls) (c ∷ cs) =
    Closes may_answer may_give_up l c × ClosesAll may_answer may_give_up ls cs
