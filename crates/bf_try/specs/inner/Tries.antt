-- The ledger of tries, and the results of instances over it.
use Rattle.std.specs.Prelude.{◌≡◌, Option, Some}
use Rattle.bf_try.specs.declared.ledger.Entry.{Entry}

-- ---- two ledgers

-- an equal outcome, where the other try was given the same
abbrev pub Agree : Entry → Option Entry → Type 0
Agree entry other =
    (same : Entry) → other ≡ Some same → entry.given ≡ same.given → entry.outcome ≡ same.outcome
