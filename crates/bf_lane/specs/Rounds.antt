-- What one step of a row does to its lanes.
use Rattle.std.specs.Prelude.{◌≡◌, ◌++◌, ◌∷◌, ℕ, List, [], Some, slice_get, slice_set}
use Rattle.bf_try.specs.Asked.{Asked}
use Rattle.bf_lane.specs.declared.messages.Job.TheVariants.{Run}
use Rattle.bf_lane.specs.declared.messages.Answer.{Answer}
use Rattle.bf_lane.specs.Open.{Scheduled, scheduled}

-- the lane at this place has one try more
pub record IsSubmitted (before after : List Scheduled) (at : ℕ) (t : Asked) : Type 0 where
  pub lane : Scheduled
  pub here : slice_get before at ≡ Some lane
  pub new : after ≡ slice_set before at (scheduled (lane.submitted ++ Run t ∷ []) lane.gathered)

-- the lane at this place has one answer more
pub record IsGathered (before after : List Scheduled) (at : ℕ) (a : Answer) : Type 0 where
  pub lane : Scheduled
  pub here : slice_get before at ≡ Some lane
  pub new : after ≡ slice_set before at (scheduled lane.submitted (lane.gathered ++ a ∷ []))
