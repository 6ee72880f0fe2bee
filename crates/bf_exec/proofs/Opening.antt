-- At the start of a backfill.
use Rattle.std.proofs.Common.{◌≡◌, ℕ, List, length, refl, sym, subst}
use Rattle.bf_plan.specs.Sound.{AreLimits, IsSound}
use Rattle.bf_core.specs.Terms.{Dag, Limits}
use Rattle.bf_core.specs.Cores.{Backfill, opening}
use Rattle.bf_core.proofs.Driven.{driven_opening}
use Rattle.bf_lane.specs.Open.{Scheduled}
use Rattle.bf_sched.specs.Scheduling.{Schedule}
use Rattle.bf_exec.specs.Accounts.{IsInStep}
use Rattle.bf_exec.specs.inner.Accounts.{AreUnused}
use Rattle.bf_exec.specs.Turns.{AreInStep}
use Rattle.bf_exec.proofs.Keeping.{opening_in_step}

pub starts_in_step : (lanes : List Scheduled) (b : Backfill) (dag : Dag) (limits : Limits) (runs workers : ℕ) (s : Schedule) → IsSound dag → AreLimits dag limits → b ≡ opening dag limits runs → s ≡ record { backfill = b; workers = workers } →
    AreUnused lanes → length lanes ≡ workers → AreInStep lanes s
starts_in_step lanes b dag limits runs workers s sound fit is to unused many =
    let driven : _ = driven_opening (λ n g r. Unit {0}) dag limits runs workers (opening dag limits runs) sound fit refl in
    let first : IsInStep lanes (opening dag limits runs) workers = opening_in_step lanes dag limits runs workers driven.replayed unused many in
    subst (AreInStep lanes) (sym to) (subst (λ (x : Backfill). IsInStep lanes x workers) (sym is) first)
