-- How the instances of a backfill stand: which of them wait, and what for.
use Rattle.std.specs.Prelude.{◌≡◌, ℕ, ℤ}
use Rattle.bf_core.specs.Cores.{Backfill}
use Rattle.bf_waiting.specs.declared.instances.Standing.{Standing}
use Rattle.bf_waiting.specs.Standings.{IsReadyAt, IsDelayedAt}

-- so the instance stands
abbrev pub Stands : Backfill → ℕ → ℕ → ℕ → Standing → Type 0
Stands backfill run task place Standing.Away =
    ¬ (IsReadyAt backfill run task place)
    × ((moment : ℤ) → ¬ (IsDelayedAt backfill run task place moment))
Stands backfill run task place Standing.Ready =
    IsReadyAt backfill run task place
    × ((moment : ℤ) → ¬ (IsDelayedAt backfill run task place moment))
Stands backfill run task place (Standing.Delayed moment) =
    ¬ (IsReadyAt backfill run task place) × IsDelayedAt backfill run task place moment
    × ((other : ℤ) → IsDelayedAt backfill run task place other → other ≡ moment)
