-- What the lanes and the backfill have in common: the tries that run.
use Rattle.std.specs.Prelude.{◌≡◌, ◌+◌, ℕ, true, List, [], ◌∷◌, length, sum_by}
use Rattle.bf_try.specs.Asked.{Asked}
use Rattle.bf_core.specs.Cores.{Backfill, IsReplay}
use Rattle.bf_core.specs.Running.{running_tries}
use Rattle.bf_lane.specs.Lanes.{all_runs, answered, asked}
use Rattle.bf_lane.specs.Open.{Scheduled}

-- the sum of h over the tries that were submitted to all lanes
abbrev pub submitted_sum : (Asked → ℕ) → List Scheduled → ℕ
submitted_sum h lanes = sum_by (λ lane. sum_by h (asked lane.submitted)) lanes

-- the sum of h over the tries whose answers were gathered of all lanes
abbrev pub gathered_sum : (Asked → ℕ) → List Scheduled → ℕ
gathered_sum h lanes = sum_by (λ lane. sum_by h (answered lane.gathered)) lanes

-- what was submitted is what was gathered and what runs, each try with what it is given, however tries are weighed
pub record IsAccounted (lanes : List Scheduled) (b : Backfill) : Type 0 where
  pub equal : (h : Asked → ℕ) → submitted_sum h lanes
      ≡ gathered_sum h lanes + running_tries h b.dag b.state

-- no lane was told to stop
abbrev pub NoneStopped : List Scheduled → Type 0
NoneStopped [] = Unit {0}
NoneStopped (lane ∷ lanes) = (all_runs lane.submitted ≡ true) × NoneStopped lanes

-- there is a lane for each worker, and what runs is what was submitted and not gathered
pub record IsInStep (lanes : List Scheduled) (b : Backfill) (workers : ℕ) : Type 0 where
  pub replayed : IsReplay b
  pub lane_each : length lanes ≡ workers
  pub none_stopped : NoneStopped lanes
  pub accounted : IsAccounted lanes b
